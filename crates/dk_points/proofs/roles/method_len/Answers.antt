use Rattle.std.proofs.Common.{◌≡◌, ◌∙◌, length, filter, unwrap_or, None, sym, ap, arith}
use Rattle.std.specs.List.{last_or, range_with_len}
use Rattle.dk_points.specs.Names.{is_separator, method_len}
use Rattle.dk_points.proofs.Separators.{last_before, last_here}
use Rattle.dk_points.proofs.roles.method_len.Goals as goal
use Rattle.dk_points.proofs.roles.method_len.Goals.{then-is_separator, else-is_separator}

pub loop-place-preserved : goal.loop-place-preserved
loop-place-preserved c =
    let p = is_separator c.args.name.now in
    record {
      last = elim c.if-is_separator.branch [
        | then-is_separator w ↦ w.len-is ∙ last_here p c.loop-place.place (length c.args.name.now) (sym c.is_separator.ensures ∙ w.if-is_separator.true)
        | else-is_separator w ↦ w.len-is ∙ last_before p c.loop-place.place (length c.args.name.now) c.loop-place.len
            (sym c.is_separator.ensures ∙ w.if-is_separator.false) c.loop-place.invariant.last
      ];
      within = elim c.if-is_separator.branch [ then-is_separator w ↦ omega arith | else-is_separator w ↦ omega arith ];
    }

pub returns-clause-value : goal.returns-clause-value
unfolding method_len
returns-clause-value c =
    let all : c.loop-place.place ≡ length c.args.name.now = omega arith in
    c.loop-place.invariant.last ∙ ap (λ n. unwrap_or (last_or None (filter (is_separator c.args.name.now) (range_with_len 0 n))) (length c.args.name.now)) all
