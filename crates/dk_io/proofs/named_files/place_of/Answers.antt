use Rattle.std.proofs.Common.{ap, ℕ, suc, List, arith, ◌≡◌, ◌+◌, ◌∙◌, sym, Bool, true, false, cond, length-take, length-drop}
use Rattle.std.specs.Str.{bytes_eq}
use Rattle.dk_io.specs.Outside.{Holds}
use Rattle.dk_io.specs.NamedFiles.{named_file, bytes_at}
use Rattle.dk_io.proofs.Files.{held_step, bytes_step, bytes_at_get, behind}
use Rattle.dk_io.proofs.named_files.place_of.Goals as goal

pub returns-then-eq : goal.returns-then-eq
returns-then-eq c =
    let step = held_step c.loop-rest.rest.now c.file-item.result c.args.name.now c.in-len1-up.len_at_least c.file-item.is in
    let same : bytes_eq c.file-item.result.0 c.args.name.now ≡ true = ap (λ (l : List ℕ). bytes_eq l c.args.name.now) (sym c.as_slice.ensures) ∙ sym c.eq.ensures ∙ c.if-eq.true in
    let place : c.loop-rest.place ≡ c.loop-rest.place + 0 = omega arith in
    let there = ap (λ (k : ℕ). bytes_at c.args.files.now k) place ∙ c.loop-rest.invariant.there 0 ∙ bytes_at_get c.loop-rest.rest.now 0 c.file-item.result c.in-len1-up.len_at_least c.file-item.is in
    c.loop-rest.invariant.held ∙ step
    ∙ ap (λ (b : Bool). cond b (Holds c.file-item.result.1) (named_file (behind c.loop-rest.rest.now) c.args.name.now)) same
    ∙ ap (λ (l : List ℕ). Holds l) (sym there)

pub loop-rest-preserved : goal.loop-rest-preserved
loop-rest-preserved c =
    let step = held_step c.loop-rest.rest.now c.file-item.result c.args.name.now c.in-len1-up.len_at_least c.file-item.is in
    let other : bytes_eq c.file-item.result.0 c.args.name.now ≡ false = ap (λ (l : List ℕ). bytes_eq l c.args.name.now) (sym c.as_slice.ensures) ∙ sym c.eq.ensures ∙ c.if-eq.false in
    record {
      held = c.loop-rest.invariant.held ∙ step ∙ ap (λ (b : Bool). cond b (Holds c.file-item.result.1) (named_file (behind c.loop-rest.rest.now) c.args.name.now)) other;
      there = λ k. let next : c.loop-rest.place + 1 + k ≡ c.loop-rest.place + suc k = omega arith in
          ap (λ (n : ℕ). bytes_at c.args.files.now n) next ∙ c.loop-rest.invariant.there (suc k) ∙ bytes_step c.loop-rest.rest.now k c.in-len1-up.len_at_least;
      count = omega (arith, length-take {A = List ℕ × List ℕ}, length-drop {A = List ℕ × List ℕ});
    }
