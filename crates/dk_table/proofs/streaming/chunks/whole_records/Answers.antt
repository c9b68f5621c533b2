use Rattle.std.proofs.Common.{◌≡◌, ◌≢◌, ◌+◌, arith, length, rules, subst, sym, ℕ}
use Rattle.dk_table.specs.declared.streaming.chunks.Stand.TheVariants as stand
use Rattle.dk_table.proofs.Chunked.{Found, all_found, none_found, none_more_found, row_found}
use Rattle.dk_table.proofs.streaming.chunks.whole_records.Goals.{else-eq, then-eq}
use Rattle.dk_table.proofs.streaming.chunks.whole_records.Goals as goal

pub loop-place-init : goal.loop-place-init
loop-place-init c = none_found c.args.separator c.args.bytes.now

pub loop-place-preserved : goal.loop-place-preserved
loop-place-preserved c =
    let separator = c.args.separator in
    let bytes = c.args.bytes.now in
    let place : ℕ = c.loop-place.place in
    let next = c.behind-stand.result in
    let P : ℕ → Type 0 = λ n. Found separator bytes (place + 1) n next in
    elim c.if-eq.branch [
      | then-eq w ↦
          let row : next ≡ stand.Row = search rules in
          subst P (sym w.whole-is) (row_found separator bytes place c.loop-place.whole c.loop-place.stand next c.loop-place.invariant c.loop-place-test.true c.behind-stand.ensures row)
      | else-eq w ↦
          let other : next ≢ stand.Row = search rules in
          subst P (sym w.whole-is)
          (none_more_found separator bytes place c.loop-place.whole c.loop-place.stand next c.loop-place.invariant c.loop-place-test.true c.behind-stand.ensures other)
    ]

pub returns : goal.returns
returns c =
    let at : c.loop-place.place ≡ length c.args.bytes.now = omega arith in
    all_found c.args.separator c.args.bytes.now c.loop-place.whole c.loop-place.stand
    (subst (λ (n : ℕ). Found c.args.separator c.args.bytes.now n c.loop-place.whole c.loop-place.stand) at c.loop-place.invariant)
