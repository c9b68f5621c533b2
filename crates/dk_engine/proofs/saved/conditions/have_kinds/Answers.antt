use Rattle.std.specs.Prelude.{◌≡◌}
use Rattle.std.proofs.Common.{◌∙◌, ap, arith, inl, inr, subst, sym}
use Rattle.std.proofs.lemmas.Bool.{cases_lt}
use Rattle.dk_classes.specs.Classes.{kind_at, var_kinds}
use Rattle.dk_classes.specs.Leaders.{leader_at}
use Rattle.dk_engine.proofs.saved.conditions.have_kinds.Goals as goal

pub loop-v-preserved : goal.loop-v-preserved
loop-v-preserved c =
    let infos = c.args.infos.now in
    let leaders = c.args.classes.now in
    let v = c.loop-v.v in
    let here : kind_at (var_kinds infos) (leader_at leaders v) ≡ kind_at (var_kinds infos) v =
    ap (kind_at (var_kinds infos)) (sym c.leader.ensures) ∙ (sym c.kind_of.ensures ∙ (c.is_same.ensures.0 c.if-not-is_same.false ∙ c.kind_of-in-loop-v.ensures))
    in
    λ k l. elim (cases_lt k v) as (λ _. kind_at (var_kinds infos) (leader_at leaders k) ≡ kind_at (var_kinds infos) k) [
      | inl below ↦ c.loop-v.invariant k below
      | inr up ↦ let same : v ≡ k = omega (arith, l, up) in subst (λ n. kind_at (var_kinds infos) (leader_at leaders n) ≡ kind_at (var_kinds infos) n) same here
    ]
