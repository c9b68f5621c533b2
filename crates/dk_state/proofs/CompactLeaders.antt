-- The leaders in the compact form are those of the samples.
use Rattle.std.specs.Prelude.{◌≡◌, ◌<◌, ◌≤◌, ℕ, Bool, true, List, length, nat_lt, refl}
use Rattle.std.specs.List.{position_or_len, range_with_len}
use Rattle.std.proofs.Common.{◌∙◌, ap, arith, get_or, inl, inr, subst, sym}
use Rattle.std.proofs.lemmas.Bool.{cases_Bool, ltb-false, ltb-true, true≢false}
use Rattle.std.proofs.lemmas.List.{get_or-map, get_or_default, length-map}
use Rattle.std.proofs.lemmas.List.FromFn.{get_or-map-range_with_len, length-range_with_len}
use Rattle.std.proofs.lemmas.List.Sums.{fails_before_first, passes_at_first}
use Rattle.dk_base.specs.declared.kinds.Kind.TheVariants as kind
use Rattle.dk_base.specs.declared.kinds.VarId.{VarId}
use Rattle.dk_base.specs.declared.kinds.VarInfo.{VarInfo}
use Rattle.dk_base.specs.declared.values.Value.{Value}
use Rattle.dk_classes.specs.Classes.{AreLeaders, InClass, IsFirst, kind_at, var_kinds}
use Rattle.dk_classes.specs.Leaders.{leader_at, var}
use Rattle.dk_filters.specs.Facts.{info_at}
use Rattle.dk_filters.specs.OfSamples.{agrees}
use Rattle.dk_filters.proofs.Agreeing.{agrees_is_agreement}
use Rattle.dk_instances.specs.Instances.{all_vars}
use Rattle.dk_state.specs.Compact.{leader_in, leaders_in}

kind_is : (infos : List VarInfo) (v : ℕ) → v < length infos → kind_at (var_kinds infos) v ≡ (info_at infos (var v)).kind
kind_is infos v l = get_or-map (λ (info : VarInfo). info.kind) infos v (info_at infos (var v)) kind.Bool l ∙ ap (λ (info : VarInfo). info.kind) (sym (get_or_default infos v _ (info_at infos (var v)) l))

var_at : (infos : List VarInfo) (v : ℕ) (d : VarId) → v < length infos → get_or (all_vars infos) v d ≡ var v
var_at infos v d l = get_or-map-range_with_len (λ n. var n) 0 (length infos) v v d l (omega arith)

all_long : (infos : List VarInfo) → length (all_vars infos) ≡ length infos
all_long infos = length-map (range_with_len 0 (length infos)) (λ n. var n) ∙ length-range_with_len 0 (length infos)

module _ (infos : List VarInfo) (samples : List (List Value)) (v : ℕ) (within : v < length infos) where
  abbrev like : VarId → Bool
  like w = agrees infos samples w (var v)

  in_class : (w : ℕ) → w < length infos → agrees infos samples (var w) (var v) ≡ true → InClass (var_kinds infos) samples v w
  in_class w l h =
      let told = (agrees_is_agreement infos samples (var w) (var v)).0 h in
      record {
        within = subst (λ n. w < n) (sym (length-map infos (λ (info : VarInfo). info.kind))) l;
        kind = kind_is infos w l ∙ (told.0 ∙ sym (kind_is infos v within));
        agree = told.1;
      }

  from_class : (w : ℕ) → InClass (var_kinds infos) samples v w → agrees infos samples (var w) (var v) ≡ true
  from_class w c =
      let l : w < length infos = subst (λ n. w < n) (length-map infos (λ (info : VarInfo). info.kind)) c.within in
      (agrees_is_agreement infos samples (var w) (var v)).1 (sym (kind_is infos w l) ∙ (c.kind ∙ kind_is infos v within), c.agree)

  itself : agrees infos samples (var v) (var v) ≡ true
  itself = from_class v (record { within = subst (λ n. v < n) (sym (length-map infos (λ (info : VarInfo). info.kind))) within; kind = refl; agree = λ k d l. refl })

  -- what stands before the place doesn't agree
  apart : (w : ℕ) → w < length infos → agrees infos samples (var w) (var v) ≡ true → position_or_len like (all_vars infos) ≤ w
  apart w l h = elim (cases_Bool (nat_lt w (position_or_len like (all_vars infos)))) [
    | inl before ↦
        let no = fails_before_first like (all_vars infos) w (var 0) (ltb-true w (position_or_len like (all_vars infos)) before) in
        absurd (true≢false (sym h ∙ (ap (λ u. agrees infos samples u (var v)) (sym (var_at infos w (var 0) l)) ∙ no)))
    | inr not ↦ ltb-false w (position_or_len like (all_vars infos)) not
  ]

  first_of_class : IsFirst (InClass (var_kinds infos) samples v) (position_or_len like (all_vars infos))
  first_of_class =
      let n = position_or_len like (all_vars infos) in
      let l : n < length infos = omega (arith, apart v within itself, within) in
      let m : n < length (all_vars infos) = omega (arith, l, all_long infos) in
      let passes = passes_at_first like (all_vars infos) (var 0) m in
      record {
        holds = in_class n l (ap (λ u. agrees infos samples u (var v)) (sym (var_at infos n (var 0) l)) ∙ passes);
        first = λ w c. apart w (subst (λ k. w < k) (length-map infos (λ (info : VarInfo). info.kind)) c.within) (from_class w c);
      }

pub leaders_exact : (infos : List VarInfo) (samples : List (List Value)) → AreLeaders (var_kinds infos) samples (leaders_in infos samples)
leaders_exact infos samples =
    let all = length-map (all_vars infos) (leader_in infos samples) ∙ all_long infos in
    record {
      long = all ∙ sym (length-map infos (λ (info : VarInfo). info.kind));
      each = λ v l.
          let within : v < length infos = omega (arith, l, all) in
          let is : leader_at (leaders_in infos samples) v ≡ position_or_len (like infos samples v within) (all_vars infos) =
          ap (λ (u : VarId). u.0) (get_or-map (leader_in infos samples) (all_vars infos) v (var 0) (var 0) (omega (arith, within, all_long infos)) ∙ ap (leader_in infos samples) (var_at infos v (var 0) within))
          in
          subst (IsFirst (InClass (var_kinds infos) samples v)) (sym is) (first_of_class infos samples v within);
    }
