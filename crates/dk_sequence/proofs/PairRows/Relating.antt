-- What the rows of a value and a sequence and of two sequences say of one tuple.
use Rattle.std.specs.Prelude.{◌≡◌, List, [], ◌∷◌, refl}
use Rattle.std.proofs.Common.{ap}
use Rattle.std.proofs.lemmas.List.{append-nil}
use Rattle.dk_base.specs.Values.Tuples.{ints_of, value_at}
use Rattle.dk_base.specs.declared.values.Value.{Value}
use Rattle.dk_forms.specs.Offset.{differences, offset_of}
use Rattle.dk_meanings.specs.Meanings.{meanings, relation_of, state_of}
use Rattle.dk_sequence.specs.Pairs.{are_equal_by, are_related, equal_row, is_member_by, is_subset_by, member_row, offset_row, partners_row, subset_row}
use Rattle.dk_sequence.specs.declared.pairs.equality.EqualSequences.{EqualSequences}
use Rattle.dk_sequence.specs.declared.pairs.equality.EqualSequences.TheVariants as equal
use Rattle.dk_sequence.specs.declared.pairs.membership.Member.{Member}
use Rattle.dk_sequence.specs.declared.pairs.membership.Member.TheVariants as member
use Rattle.dk_sequence.specs.declared.pairs.partners.Partners.{Partners}
use Rattle.dk_sequence.specs.declared.pairs.partners.Partners.TheVariants as partners
use Rattle.dk_sequence.specs.declared.pairs.subsets.Subset.{Subset}
use Rattle.dk_sequence.specs.declared.pairs.subsets.Subset.TheVariants as subset

pub member_relation : (r : Member) (t : List Value) → relation_of (member_row r) t ≡ is_member_by r t
unfolding relation_of meanings
member_relation member.Int t = refl
member_relation member.Hash t = refl
member_relation member.Str t = refl

pub equal_relation : (r : EqualSequences) (t : List Value) → relation_of (equal_row r) t ≡ are_equal_by r t
unfolding relation_of meanings
equal_relation equal.Int t = refl
equal_relation equal.Bool t = refl
equal_relation equal.Hash t = refl
equal_relation equal.Str t = refl

pub partners_relation : (r : Partners) (t : List Value) → relation_of (partners_row r) t ≡ are_related r (ints_of (value_at t 0)) (ints_of (value_at t 1))
unfolding relation_of meanings
partners_relation partners.Less t = refl
partners_relation partners.AtMost t = refl
partners_relation partners.Reversed t = refl

pub subset_relation : (r : Subset) (t : List Value) → relation_of (subset_row r) t ≡ is_subset_by r t
unfolding relation_of meanings
subset_relation subset.Int t = refl
subset_relation subset.Hash t = refl
subset_relation subset.Str t = refl

pub offset_of_one : (t : List Value) → state_of offset_row (t ∷ []) ≡ offset_of (differences (ints_of (value_at t 0)) (ints_of (value_at t 1)))
unfolding state_of meanings
offset_of_one t = ap offset_of (append-nil (differences (ints_of (value_at t 0)) (ints_of (value_at t 1))))
