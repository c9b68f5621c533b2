-- The kinds and forms of the rows of a value and a sequence and of two sequences.
use Rattle.std.specs.Prelude.{◌≡◌, List, [], ◌∷◌, refl}
use Rattle.dk_base.specs.declared.kinds.Kind.TheVariants as kind
use Rattle.dk_base.specs.declared.values.Value.{Value}
use Rattle.dk_sequence.specs.Pairs.{element_kind, equal_kind, equal_row, member_kind, member_row, offset_row, partners_row, subset_kind, subset_row}
use Rattle.dk_sequence.specs.declared.pairs.equality.EqualSequences.{EqualSequences}
use Rattle.dk_sequence.specs.declared.pairs.equality.EqualSequences.TheVariants as equal
use Rattle.dk_sequence.specs.declared.pairs.membership.Member.{Member}
use Rattle.dk_sequence.specs.declared.pairs.membership.Member.TheVariants as member
use Rattle.dk_sequence.specs.declared.pairs.partners.Partners.{Partners}
use Rattle.dk_sequence.specs.declared.pairs.partners.Partners.TheVariants as partners
use Rattle.dk_sequence.specs.declared.pairs.subsets.Subset.{Subset}
use Rattle.dk_sequence.specs.declared.pairs.subsets.Subset.TheVariants as subset
use Rattle.dk_template.specs.Rows.{IsTuple}
use Rattle.dk_template.specs.Templates.{form_of, role_kinds, rows}
use Rattle.dk_template.specs.declared.templates.StateForm.TheVariants as form

pub member_takes : (r : Member) (t : List Value) → IsTuple (role_kinds (member_row r)) t → IsTuple (element_kind r ∷ member_kind r ∷ []) t
unfolding rows
member_takes member.Int t is = is
member_takes member.Hash t is = is
member_takes member.Str t is = is

pub equal_takes : (r : EqualSequences) (t : List Value) → IsTuple (role_kinds (equal_row r)) t → IsTuple (equal_kind r ∷ equal_kind r ∷ []) t
unfolding rows
equal_takes equal.Int t is = is
equal_takes equal.Bool t is = is
equal_takes equal.Hash t is = is
equal_takes equal.Str t is = is

pub partners_takes : (r : Partners) (t : List Value) → IsTuple (role_kinds (partners_row r)) t → IsTuple (kind.IntSeq ∷ kind.IntSeq ∷ []) t
unfolding rows
partners_takes partners.Less t is = is
partners_takes partners.AtMost t is = is
partners_takes partners.Reversed t is = is

pub subset_takes : (r : Subset) (t : List Value) → IsTuple (role_kinds (subset_row r)) t → IsTuple (subset_kind r ∷ subset_kind r ∷ []) t
unfolding rows
subset_takes subset.Int t is = is
subset_takes subset.Hash t is = is
subset_takes subset.Str t is = is

pub offset_takes : (t : List Value) → IsTuple (role_kinds offset_row) t → IsTuple (kind.IntSeq ∷ kind.IntSeq ∷ []) t
unfolding rows
offset_takes t is = is

pub member_form : (r : Member) → form_of (member_row r) ≡ form.Plain
unfolding rows
member_form member.Int = refl
member_form member.Hash = refl
member_form member.Str = refl

pub equal_form : (r : EqualSequences) → form_of (equal_row r) ≡ form.Plain
unfolding rows
equal_form equal.Int = refl
equal_form equal.Bool = refl
equal_form equal.Hash = refl
equal_form equal.Str = refl

pub partners_form : (r : Partners) → form_of (partners_row r) ≡ form.Plain
unfolding rows
partners_form partners.Less = refl
partners_form partners.AtMost = refl
partners_form partners.Reversed = refl

pub subset_form : (r : Subset) → form_of (subset_row r) ≡ form.Plain
unfolding rows
subset_form subset.Int = refl
subset_form subset.Hash = refl
subset_form subset.Str = refl

pub offset_form : form_of offset_row ≡ form.Offset
unfolding rows
offset_form = refl
