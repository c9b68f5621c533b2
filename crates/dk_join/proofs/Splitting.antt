-- A class splits by the leaders in the second engine as by a sample.
use Rattle.std.specs.Prelude.{◌≡◌, ◌<◌, ℕ, pos, List, length, map}
use Rattle.std.proofs.Common.{ap, ◌∙◌, arith, sym}
use Rattle.std.proofs.lemmas.List.{get_or-map}
use Rattle.dk_base.specs.declared.kinds.VarId.{VarId}
use Rattle.dk_base.specs.declared.values.Value.{Value}
use Rattle.dk_base.specs.declared.values.Value.TheVariants as value
use Rattle.dk_classes.proofs.Firsts.{first_same}
use Rattle.dk_classes.specs.Classes.{IsLike, IsSplit}
use Rattle.dk_classes.specs.Leaders.{leader_at, var}
use Rattle.dk_samples.specs.Samples.{value_in}
use Rattle.dk_join.specs.Joined.{AreJoinedLeaders, IsLedAlike}
use Rattle.dk_join.specs.Tallies.{leader_value}

value_there : (leaders : List VarId) (v : ℕ) → v < length leaders → value_in (map leader_value leaders) (var v) ≡ value.Int (pos (leader_at leaders v))
value_there leaders v l = get_or-map leader_value leaders v (var 0) value.Missing l

one_number : (m n : ℕ) → ◌≡◌ {A = Value} (value.Int (pos m)) (value.Int (pos n)) → m ≡ n
one_number m n e = cc

pub joined_by_split : (first second leaders : List VarId) → length first ≡ length second → IsSplit first (map leader_value second) leaders → AreJoinedLeaders first second leaders
joined_by_split first second leaders same split = record {
  long = split.long;
  each = λ v l.
      let long = split.long in
      let lv : v < length first = omega (arith, long, l) in
      let mv : v < length second = omega (arith, same, lv) in
      first_same (IsLike first (map leader_value second) v) (IsLedAlike first second v) (leader_at leaders v)
      (λ w like.
      let within = like.within in
      let mw : w < length second = omega (arith, same, within) in
      record {
        within = like.within;
        first_leader = like.class;
        second_leader = one_number (leader_at second w) (leader_at second v) (sym (value_there second w mw) ∙ (like.value ∙ value_there second v mv));
      })
      (λ w alike.
      let within = alike.within in
      let mw : w < length second = omega (arith, same, within) in
      record {
        within = alike.within;
        class = alike.first_leader;
        value = value_there second w mw ∙ (ap (λ (n : ℕ). value.Int (pos n)) alike.second_leader ∙ sym (value_there second v mv));
      })
      (split.each v lv);
}
