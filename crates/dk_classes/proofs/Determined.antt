-- The leaders of classes are determined by the samples; and where no leader is new, they are the old ones.
use Rattle.std.proofs.Common.{◌≡◌, ℕ, ◌<◌, ◌∙◌, ap, arith, inl, inr, length, List, [], refl, sym}
use Rattle.std.proofs.lemmas.Bool.{cases_eq}
use Rattle.std.proofs.lemmas.List.{get_or_default, same_lists}
use Rattle.dk_base.specs.declared.kinds.VarId.{VarId}
use Rattle.dk_base.specs.declared.values.Value.{Value}
use Rattle.dk_classes.proofs.Agreement.{classes_of_split}
use Rattle.dk_classes.proofs.Firsts.{one_first}
use Rattle.dk_classes.specs.Classes.{AreNew, InClass, IsSplit}
use Rattle.dk_classes.specs.Laws.{LeadersAreDetermined}
use Rattle.dk_classes.specs.Leaders.{AreClasses, leader_at, var}

-- lists of as many leaders, with the same leader at each place
same_leaders : (a b : List VarId) → length a ≡ length b → ((v : ℕ) → v < length a → leader_at a v ≡ leader_at b v) → a ≡ b
same_leaders a b long same = same_lists a b long (λ k d l.
    let m : k < length b = omega (arith, long, l) in
    get_or_default a k d (var 0) l ∙ (ap var (same k l) ∙ get_or_default b k (var 0) d m))

pub leaders_are_determined : LeadersAreDetermined
leaders_are_determined kinds samples leaders others is also = same_leaders leaders others (is.long ∙ sym also.long) (λ v l.
    let m : v < length others = (let x = is.long in let y = also.long in omega arith) in
    one_first (InClass kinds samples v) (leader_at leaders v) (leader_at others v) (is.each v l) (also.each v m))

pub split_same : (leaders : List VarId) (sample : List Value) (split : List VarId) → AreClasses leaders → IsSplit leaders sample split → AreNew leaders split [] → split ≡ leaders
split_same leaders sample split classes is none = same_leaders split leaders is.long (λ v l.
    let first = is.each v (omega (arith, is.long, l)) in
    let leader = leader_at split v in
    let own : leader_at split leader ≡ leader = (classes_of_split leaders sample split classes is).own v l in
    elim (cases_eq (leader_at leaders leader) leader) [
      | inl led ↦ sym led ∙ first.holds.class
      | inr apart ↦
          let has = (none.each (var leader) (var (leader_at leaders leader))).1 (omega (arith, is.long, first.holds.within), own, apart, refl) in
          absurd (omega (arith, has.1))
    ])
