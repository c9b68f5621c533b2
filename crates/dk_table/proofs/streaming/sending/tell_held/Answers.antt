use Rattle.std.proofs.Common.{◌≡◌, ◌<◌, ◌+◌, ◌∙◌, ◌∷◌, ◌++◌, [], ap, arith, drop, length, List, None, Option, sym, ℕ}
use Rattle.std.proofs.lemmas.List.{drop_more}
use Rattle.std.proofs.lemmas.Result.{err_from_is_err_and}
use Rattle.dk_table.proofs.Pieces.{told_as}
use Rattle.dk_table.proofs.Sent.{written_next, written_stop}
use Rattle.dk_table.proofs.Streamed.{steps_apart}
use Rattle.dk_table.proofs.Told.{behind, none_ahead, parts_told, refused_ahead, still_refused}
use Rattle.dk_table.specs.Streams.{Step, first_refusal, rows_before, rows_steps, told_steps}
use Rattle.dk_table.specs.Streams.Pieces.{chunk_rows, held_rows}
use Rattle.dk_table.specs.Tables.PlacedRows.{Placed}
use Rattle.dk_table.specs.Writing.Forms.{rows_text}
use Rattle.dk_table.specs.declared.faults.Refusal.{Refusal}
use Rattle.dk_table.specs.declared.streaming.held.Chunk.{Chunk}
use Rattle.dk_table.proofs.streaming.sending.tell_held.Goals as goal

pub returns-in_err-tell_chunk : goal.returns-in_err-tell_chunk
returns-in_err-tell_chunk g c =
    let body = c.args.body.now in
    let kinds = body.plan.kinds in
    let header = c.args.command.now.has_header in
    let separator = c.args.command.now.separator in
    let held : List Chunk = c.args.held.now in
    let i = c.loop-i.i in
    let chunk : Chunk = c.index-held-i.result in
    let lt : i < length held = omega arith in
    let front : List Placed = chunk_rows separator chunk in
    let back : List Placed = held_rows separator (drop (i + 1) held) in
    let rows : held_rows separator (drop i held) ≡ front ++ back =
    ap (held_rows separator) (drop_more held i chunk lt ∙ ap (λ (x : Chunk). x ∷ drop (i + 1) held) (sym c.index-held-i.is)) in
    let all : List Step = rows_steps header body.names (held_rows separator (drop i held)) in
    let own : List Step = rows_steps header body.names front in
    let rest : List Step = rows_steps header body.names back in
    let is : all ≡ own ++ rest = ap (rows_steps header body.names) rows ∙ steps_apart header body.names front back in
    let whole : Option Refusal = first_refusal (told_steps kinds (rows_steps header body.names (held_rows separator held))) in
    let none : List ℕ = [] in
    let p = err_from_is_err_and c.from_residual.result c.from_residual.ensures.1 in
    rw (p.1, p.2)
    (written_stop _ (rows_text body.form (rows_before (told_steps kinds own))) (behind body.form kinds all own rest is none) (rows_text body.form (rows_before (told_steps kinds all)))
    (first_refusal (told_steps kinds own)) whole _ _ _ _ _ _ (parts_told body.form kinds all own rest is none) c.loop-i.invariant.told ℕ (Unit {0}) c.in_err-tell_chunk.field-0.0
    (refused_ahead body.form kinds all own rest is none whole c.loop-i.invariant.refused) c.in_err-tell_chunk.ensures.told)

pub loop-i-preserved : goal.loop-i-preserved
loop-i-preserved g c =
    let body = c.args.body.now in
    let kinds = body.plan.kinds in
    let header = c.args.command.now.has_header in
    let separator = c.args.command.now.separator in
    let held : List Chunk = c.args.held.now in
    let i = c.loop-i.i in
    let chunk : Chunk = c.index-held-i.result in
    let lt : i < length held = omega arith in
    let front : List Placed = chunk_rows separator chunk in
    let back : List Placed = held_rows separator (drop (i + 1) held) in
    let rows : held_rows separator (drop i held) ≡ front ++ back =
    ap (held_rows separator) (drop_more held i chunk lt ∙ ap (λ (x : Chunk). x ∷ drop (i + 1) held) (sym c.index-held-i.is)) in
    let all : List Step = rows_steps header body.names (held_rows separator (drop i held)) in
    let own : List Step = rows_steps header body.names front in
    let rest : List Step = rows_steps header body.names back in
    let is : all ≡ own ++ rest = ap (rows_steps header body.names) rows ∙ steps_apart header body.names front back in
    let whole : Option Refusal = first_refusal (told_steps kinds (rows_steps header body.names (held_rows separator held))) in
    let none : List ℕ = [] in
    let clean : first_refusal (told_steps kinds own) ≡ None = c.in_ok-tell_chunk.ensures.told.0 in
    record {
      told =
          told_as _ _ _ _ _ _ _ (none_ahead body.form kinds all own rest is none clean)
          (written_next _ (rows_text body.form (rows_before (told_steps kinds own))) (behind body.form kinds all own rest is none) (rows_text body.form (rows_before (told_steps kinds all)))
          (first_refusal (told_steps kinds own)) whole _ _ _ _ _ _ (parts_told body.form kinds all own rest is none) c.loop-i.invariant.told c.in_ok-tell_chunk.ensures.told.1 c.in_ok-tell_chunk.ensures.told.2);
      refused = still_refused body.form kinds all own rest is none whole c.loop-i.invariant.refused clean;
    }
