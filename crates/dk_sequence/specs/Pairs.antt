-- The numbers of the rows of a value and a sequence and of two sequences, and what these rows state of a tuple.
use Rattle.std.specs.Prelude.{◌≡◌, ◌≤◌, ◌⊎◌, ℤ, int_le, int_lt, nat_eq, Bool, List, IsTrue, refl}
use Rattle.std.specs.Ordering.{int_eq}
use Rattle.std.specs.Str.{bytes_eq}
use Rattle.std.proofs.Math.Bool.{beq}
use Rattle.dk_base.specs.Values.Tuples.{bools_of, hash_of, hashes_of, int_of, ints_of, text_of, texts_of, value_at}
use Rattle.dk_base.specs.declared.kinds.Kind.{Kind}
use Rattle.dk_base.specs.declared.kinds.Kind.TheVariants as kind
use Rattle.dk_base.specs.declared.values.Value.{Value}
use Rattle.dk_meanings.specs.Laws.{is_row}
use Rattle.dk_meanings.specs.Relations.{are_pairwise, is_member, is_reverse, is_subset}
use Rattle.dk_sequence.specs.declared.pairs.equality.EqualSequences.{EqualSequences}
use Rattle.dk_sequence.specs.declared.pairs.equality.EqualSequences.TheVariants as equal
use Rattle.dk_sequence.specs.declared.pairs.membership.Member.{Member}
use Rattle.dk_sequence.specs.declared.pairs.membership.Member.TheVariants as member
use Rattle.dk_sequence.specs.declared.pairs.partners.Partners.{Partners}
use Rattle.dk_sequence.specs.declared.pairs.partners.Partners.TheVariants as partners
use Rattle.dk_sequence.specs.declared.pairs.subsets.Subset.{Subset}
use Rattle.dk_sequence.specs.declared.pairs.subsets.Subset.TheVariants as subset
use Rattle.dk_template.specs.Numbers as number
use Rattle.dk_template.specs.declared.grammar.RowId.{RowId}

-- a row of an element and a sequence, or of two sequences
abbrev pub IsPairRow : RowId → Type 0
IsPairRow r = ((49 ≤ r.0) × (r.0 ≤ 51)) ⊎ (((57 ≤ r.0) × (r.0 ≤ 66)) ⊎ (r.0 ≡ 68))

-- ---- the first value is an element of the second
abbrev pub member_row : Member → RowId
member_row member.Int = record { 0 = number.member_int }
member_row member.Hash = record { 0 = number.member_hash }
member_row member.Str = record { 0 = number.member_str }

abbrev pub element_kind : Member → Kind
element_kind member.Int = kind.Int
element_kind member.Hash = kind.Hash
element_kind member.Str = kind.Str

abbrev pub member_kind : Member → Kind
member_kind member.Int = kind.IntSeq
member_kind member.Hash = kind.HashSeq
member_kind member.Str = kind.StrSeq

abbrev pub is_member_by : Member → List Value → Bool
is_member_by member.Int t = is_member int_eq (int_of (value_at t 0)) (ints_of (value_at t 1))
is_member_by member.Hash t = is_member nat_eq (hash_of (value_at t 0)) (hashes_of (value_at t 1))
is_member_by member.Str t = is_member bytes_eq (text_of (value_at t 0)) (texts_of (value_at t 1))

pub member_is_row : (r : Member) → IsTrue (is_row (member_row r))
member_is_row member.Int = refl
member_is_row member.Hash = refl
member_is_row member.Str = refl

-- ---- the two sequences are equal
abbrev pub equal_row : EqualSequences → RowId
equal_row equal.Int = record { 0 = number.eq_int_seq }
equal_row equal.Bool = record { 0 = number.eq_bool_seq }
equal_row equal.Hash = record { 0 = number.eq_hash_seq }
equal_row equal.Str = record { 0 = number.eq_str_seq }

abbrev pub equal_kind : EqualSequences → Kind
equal_kind equal.Int = kind.IntSeq
equal_kind equal.Bool = kind.BoolSeq
equal_kind equal.Hash = kind.HashSeq
equal_kind equal.Str = kind.StrSeq

abbrev pub are_equal_by : EqualSequences → List Value → Bool
are_equal_by equal.Int t = are_pairwise int_eq (ints_of (value_at t 0)) (ints_of (value_at t 1))
are_equal_by equal.Bool t = are_pairwise beq (bools_of (value_at t 0)) (bools_of (value_at t 1))
are_equal_by equal.Hash t = are_pairwise nat_eq (hashes_of (value_at t 0)) (hashes_of (value_at t 1))
are_equal_by equal.Str t = are_pairwise bytes_eq (texts_of (value_at t 0)) (texts_of (value_at t 1))

pub equal_is_row : (r : EqualSequences) → IsTrue (is_row (equal_row r))
equal_is_row equal.Int = refl
equal_is_row equal.Bool = refl
equal_is_row equal.Hash = refl
equal_is_row equal.Str = refl

-- ---- two sequences of numbers, element by element
abbrev pub partners_row : Partners → RowId
partners_row partners.Less = record { 0 = number.pair_lt }
partners_row partners.AtMost = record { 0 = number.pair_le }
partners_row partners.Reversed = record { 0 = number.reverse }

abbrev pub are_related : Partners → List ℤ → List ℤ → Bool
are_related partners.Less s t = are_pairwise int_lt s t
are_related partners.AtMost s t = are_pairwise int_le s t
are_related partners.Reversed s t = is_reverse int_eq s t

pub partners_is_row : (r : Partners) → IsTrue (is_row (partners_row r))
partners_is_row partners.Less = refl
partners_is_row partners.AtMost = refl
partners_is_row partners.Reversed = refl

-- ---- each element of the first sequence is one of the second
abbrev pub subset_row : Subset → RowId
subset_row subset.Int = record { 0 = number.subset_int }
subset_row subset.Hash = record { 0 = number.subset_hash }
subset_row subset.Str = record { 0 = number.subset_str }

abbrev pub subset_kind : Subset → Kind
subset_kind subset.Int = kind.IntSeq
subset_kind subset.Hash = kind.HashSeq
subset_kind subset.Str = kind.StrSeq

abbrev pub is_subset_by : Subset → List Value → Bool
is_subset_by subset.Int t = is_subset int_eq (ints_of (value_at t 0)) (ints_of (value_at t 1))
is_subset_by subset.Hash t = is_subset nat_eq (hashes_of (value_at t 0)) (hashes_of (value_at t 1))
is_subset_by subset.Str t = is_subset bytes_eq (texts_of (value_at t 0)) (texts_of (value_at t 1))

pub subset_is_row : (r : Subset) → IsTrue (is_row (subset_row r))
subset_is_row subset.Int = refl
subset_is_row subset.Hash = refl
subset_is_row subset.Str = refl

-- ---- the offset
abbrev pub offset_row : RowId
offset_row = record { 0 = number.pair_offset }

pub offset_is_row : IsTrue (is_row offset_row)
offset_is_row = refl
