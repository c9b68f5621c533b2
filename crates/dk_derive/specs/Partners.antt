-- The partners of a parent's variables in a child, derived ones included.
use Rattle.std.specs.Prelude.{ℕ, ◌==◌, ◌&&◌, Bool, List, position, Option, None, option_and_then, option_map, slice_get, if◌then◌else◌}
use Rattle.dk_base.specs.Shapes.{is_base_form, var}
use Rattle.dk_base.specs.declared.kinds.Form.{Form}
use Rattle.dk_base.specs.declared.kinds.Form.TheVariants as form
use Rattle.dk_base.specs.declared.kinds.VarId.{VarId}
use Rattle.dk_base.specs.declared.kinds.VarInfo.{VarInfo}
use Rattle.dk_graph.specs.declared.nodes.Edge.{Edge}
use Rattle.dk_points.specs.Partners.{partner_of}
use Rattle.dk_points.specs.Table.{Point}
use Rattle.dk_derive.specs.Vars.{bases_of}

abbrev pub number_of_form : Form → ℕ
number_of_form form.Declared = 0
number_of_form form.Orig = 1
number_of_form (form.Size s) = 2
number_of_form (form.First s) = 3
number_of_form (form.Last s) = 4
number_of_form (form.At s i) = 5
number_of_form (form.Upto s i) = 6
number_of_form (form.Before s i) = 7
number_of_form (form.Since s i) = 8
number_of_form (form.After s i) = 9

-- one way to derive, of the same bases
abbrev pub same_form : Form → Form → Bool
same_form a b = number_of_form a == number_of_form b && ((bases_of a).0 == (bases_of b).0 && (bases_of a).1 == (bases_of b).1)

-- a form of one base, and of two, of which each is there
abbrev pub with_one : (VarId → Form) → Option ℕ → Option Form
with_one make s = option_map (λ s. make (var s)) s

abbrev pub with_two : (VarId → VarId → Form) → Option ℕ → Option ℕ → Option Form
with_two make s i = option_and_then (λ s. option_map (λ i. make (var s) (var i)) i) s

-- the form that is derived in the same way of the partners of its bases
abbrev pub form_through : (ℕ → Option ℕ) → Form → Option Form
form_through partner form.Declared = None
form_through partner form.Orig = None
form_through partner (form.Size s) = with_one (λ s. form.Size s) (partner s.0)
form_through partner (form.First s) = with_one (λ s. form.First s) (partner s.0)
form_through partner (form.Last s) = with_one (λ s. form.Last s) (partner s.0)
form_through partner (form.At s i) = with_two (λ s i. form.At s i) (partner s.0) (partner i.0)
form_through partner (form.Upto s i) = with_two (λ s i. form.Upto s i) (partner s.0) (partner i.0)
form_through partner (form.Before s i) = with_two (λ s i. form.Before s i) (partner s.0) (partner i.0)
form_through partner (form.Since s i) = with_two (λ s i. form.Since s i) (partner s.0) (partner i.0)
form_through partner (form.After s i) = with_two (λ s i. form.After s i) (partner s.0) (partner i.0)

-- the place among the child's variables of the one of this form
abbrev pub place_of_form : List VarInfo → Form → Option ℕ
place_of_form child f = position (λ v. same_form f v.form) child

-- the partner of the parent's variable w, which has this form, through the edge: of a base variable it is a base variable, of a derived
-- one the child's variable that is derived in the same way of its bases' partners
abbrev pub partner_by_form : List Point → Edge → List VarInfo → ℕ → Form → Option ℕ
partner_by_form ps e child w f =
    if is_base_form f then partner_of ps e w else option_and_then (place_of_form child) (form_through (partner_of ps e) f)

-- The partner among the child's variables of the parent's variable at this place, derived ones included.
unfoldable pub partner_with_derived : List Point → Edge → List VarInfo → List VarInfo → ℕ → Option ℕ
partner_with_derived ps e parent child w = option_and_then (λ v. partner_by_form ps e child w v.form) (slice_get parent w)
