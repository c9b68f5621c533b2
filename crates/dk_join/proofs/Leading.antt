-- Joined leaders are those of both lists.
use Rattle.std.specs.Prelude.{◌≡◌, ◌<◌, ◌^◌, ◌++◌, All, Contains, List, length}
use Rattle.std.proofs.Common.{◌∙◌, arith, get_or}
use Rattle.std.proofs.lemmas.List.Elements.{All-append, Contains-get_or}
use Rattle.dk_base.specs.declared.kinds.Kind.{Kind}
use Rattle.dk_base.specs.declared.kinds.VarId.{VarId}
use Rattle.dk_base.specs.declared.values.Value.{Value}
use Rattle.dk_classes.proofs.Agreement.{class_from_leader, classes_of_leaders, one_leader}
use Rattle.dk_classes.proofs.Firsts.{first_same}
use Rattle.dk_classes.proofs.OwnLeaders.{leads_from_own, own_from_leads}
use Rattle.dk_classes.specs.Classes.{AreLeaders, InClass}
use Rattle.dk_classes.specs.Leaders.{leader_at, own_leaders, var}
use Rattle.dk_engine.specs.Reading.Parts.{leader_of}
use Rattle.dk_samples.specs.Samples.{Agree, value_in}
use Rattle.dk_join.proofs.Lists.{all_parts}
use Rattle.dk_join.specs.Joined.{AreJoinedLeaders, IsLedAlike}

module _ (kinds : List Kind) (samples others : List (List Value)) (first second leaders : List VarId) (are : AreLeaders kinds samples first) (also : AreLeaders kinds others second) (joined : AreJoinedLeaders first second leaders) where
  pub leaders_of_both : AreLeaders kinds (samples ++ others) leaders
  leaders_of_both = record {
    long = joined.long ∙ are.long;
    each = λ v l.
        let long = joined.long in
        let one = are.long in
        let two = also.long in
        let lv : v < length first = omega (arith, long, l) in
        let mv : v < length second = omega (arith, long, one, two, l) in
        first_same (IsLedAlike first second v) (InClass kinds (samples ++ others) v) (leader_at leaders v)
        (λ w like.
        let a = class_from_leader kinds samples first are v w lv like.within like.first_leader in
        let within = like.within in
        let b = class_from_leader kinds others second also v w mv (omega (arith, one, two, within)) like.second_leader in
        record { within = a.within; kind = a.kind; agree = All-append (λ (s : List Value). value_in s (var w) ≡ value_in s (var v)) samples others a.agree b.agree })
        (λ w class.
        let parts = all_parts (λ (s : List Value). value_in s (var w) ≡ value_in s (var v)) samples others class.agree in
        let within = class.within in
        let lw : w < length first = omega (arith, within, one) in
        let mw : w < length second = omega (arith, within, two) in
        record {
          within = lw;
          first_leader = one_leader kinds samples first are v w lv lw (record { within = class.within; kind = class.kind; agree = parts.0 });
          second_leader = one_leader kinds others second also v w mv mw (record { within = class.within; kind = class.kind; agree = parts.1 });
        })
        (joined.each v l);
  }

-- a variable and its leader
module _ (kinds : List Kind) (samples : List (List Value)) (old : List VarId) (are : AreLeaders kinds samples old) (few : length old < 2 ^ 32) (v : VarId) (l : v.0 < length old) where
  pub agrees_with_leader : Agree samples (leader_of old v) v
  agrees_with_leader = (are.each v.0 l).holds.agree

  pub leader_leads : Contains (own_leaders old) (leader_of old v)
  leader_leads =
      let classes = classes_of_leaders kinds samples old are few in
      let low = classes.before v.0 l in
      own_from_leads old (leader_of old v) (omega (arith, low, l)) (classes.own v.0 l)

-- a joined leader is there in both
pub within_first : (first second leaders : List VarId) → AreJoinedLeaders first second leaders → (v : VarId) → Contains (own_leaders leaders) v → v.0 < length first
within_first first second leaders joined v has =
    let within = (leads_from_own leaders v has).0 in
    let long = joined.long in
    omega (arith, within, long)

pub all_within_first : (first second leaders : List VarId) → AreJoinedLeaders first second leaders → All (λ (v : VarId). v.0 < length first) (own_leaders leaders)
all_within_first first second leaders joined k d l =
    within_first first second leaders joined (get_or (own_leaders leaders) k d) (Contains-get_or (own_leaders leaders) k d l)

pub all_within_second : (first second leaders : List VarId) → length second ≡ length first → AreJoinedLeaders first second leaders → All (λ (v : VarId). v.0 < length second) (own_leaders leaders)
all_within_second first second leaders same joined k d l =
    let within = within_first first second leaders joined (get_or (own_leaders leaders) k d) (Contains-get_or (own_leaders leaders) k d l) in
    omega (arith, within, same)
