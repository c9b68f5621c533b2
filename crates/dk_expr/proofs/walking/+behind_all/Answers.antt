use Rattle.std.proofs.Common.{Bor, ap, get_or, map, subst, sym}
use Rattle.std.specs.Prelude.{Contains, List, [], ℕ}
use Rattle.dk_forms.proofs.ListStays.{others, split}
use Rattle.dk_print.specs.Shown.{part_shown}
use Rattle.dk_print.specs.declared.parts.Part as coded
use Rattle.dk_print.specs.declared.parts.Part.TheVariants as code
use Rattle.dk_expr.proofs.Walks.{parts_behind}
use Rattle.dk_expr.proofs.walking.+behind_all.Goals as goal

pub returns-in_ok-next-in-len1-up : goal.returns-in_ok-next-in-len1-up
returns-in_ok-next-in-len1-up t c =
    let parts = c.args.parts.now in
    let none : Bor (List ℕ) = record { ref_ptr = (0, 0); now = [] } in
    let d : coded.Part = code.Word none in
    parts_behind c.args.names.now c.args.text.now (map part_shown parts) (part_shown (get_or parts 0 d)) (map part_shown (others parts)) c.args.before c.in_ok-next-in-len1-up.next c.behind_all.result
    (ap (map part_shown) (split d parts c.in-len1-up.len_at_least)) (λ f there. c.in_ok-next-in-len1-up.ensures f (subst (λ l. Contains l f) (sym c.as_slice.ensures) there)) c.behind_all.ensures
