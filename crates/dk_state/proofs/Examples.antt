-- States, computed from the definitions.
use Rattle.std.specs.Prelude.{◌≡◌, ℕ, ℤ, pos, negsuc, Bool, true, false, List, [], ◌∷◌, ◌++◌, codes, refl, Option, Some, None}
use Rattle.std.specs.Fmt.{digits}
use Rattle.dk_base.specs.declared.kinds.Kind.{Kind}
use Rattle.dk_base.specs.declared.kinds.Kind.TheVariants as kind
use Rattle.dk_base.specs.declared.kinds.VarId.{VarId}
use Rattle.dk_base.specs.declared.values.Value.{Value}
use Rattle.dk_base.specs.declared.values.Value.TheVariants as value
use Rattle.dk_classes.specs.Leaders.{var}
use Rattle.dk_constants.specs.Known.{Entries}
use Rattle.dk_decl.specs.declared.decls.EdgeDecl.{EdgeDecl}
use Rattle.dk_decl.specs.declared.decls.ParentVar.{ParentVar}
use Rattle.dk_decl.specs.declared.decls.PointDecl.{PointDecl}
use Rattle.dk_decl.specs.declared.decls.VarDecl.{VarDecl}
use Rattle.dk_engine.specs.declared.kept.Kept.{Kept}
use Rattle.dk_engine.specs.declared.slots.slot.Slot.{Slot}
use Rattle.dk_forms.specs.declared.states.State.{State}
use Rattle.dk_forms.specs.declared.states.State.TheVariants.{Empty, Holds, Least, Greatest, Ints, Truth, Code, Texts, One, Modulus, Spot, Straight, Span, Plane, Offset}
use Rattle.dk_points.specs.Table.{Point, declared_point, implicit_exit}
use Rattle.dk_presence.specs.declared.held.Held.{Held}
use Rattle.dk_template.specs.declared.grammar.Grammar.TheVariants as grammar
use Rattle.dk_state.specs.Saved.{saved_text}

abbrev variable : Option Kind → ℤ → ℤ → List ℕ → Option Value → Bool → List ParentVar → VarDecl
variable k elem index name constant has parents = record {
  name = name;
  kind = k;
  compar = record { elem = elem; index = index };
  constant = constant;
  constant_line = has;
  parents = parents;
}

abbrev point : List ℕ → List EdgeDecl → List VarDecl → PointDecl
point name edges vars = record { name = name; edges = edges; vars = vars }

abbrev held : ℕ → List VarId → Held
held count leaders = record { count = count; leaders = leaders }

abbrev slot : ℕ → List VarId → State → Slot
slot row leaders state = record { row = record { 0 = row }; leaders = leaders; state = state }

abbrev kept : ℕ → List VarId → Entries → List Held → List Slot → Kept
kept samples leaders known patterns slots = record { samples = samples; leaders = leaders; known = known; held = patterns; slots = slots }

-- ---- one variable x, whose values were 1, 2, 3 and 7
abbrev x_alone : Point
x_alone = declared_point (point (codes "P") [] (variable (Some kind.Int) (negsuc 0) (negsuc 0) (codes "x") None false [] ∷ []))

abbrev x : VarId
x = var 0

abbrev first_slots : List Slot
first_slots = slot 2 (x ∷ []) (Least (pos 1)) ∷ slot 3 (x ∷ []) (Greatest (pos 7)) ∷ slot 11 (x ∷ x ∷ []) Holds ∷ slot 15 (x ∷ x ∷ []) (Straight (pos 1) (negsuc 0) (pos 0)) ∷ []

abbrev all_slots : List Slot
all_slots = first_slots ++ slot 67 (x ∷ x ∷ x ∷ []) (Span (pos 1) (pos 1) (pos 1) (pos 7) (pos 7) (pos 7)) ∷ []

four_values : saved_text grammar.One (x_alone ∷ []) true (kept 4 (x ∷ []) [] (held 4 (x ∷ []) ∷ []) first_slots ∷ [])
    ≡ codes "daikon-state 1\ncomparability implicit\npoints 1\npoint P\nvar int -1 -1 x\nend\nsamples 0 4\nclass 0\npattern 4 1\nslot 2 0 least 1\nslot 3 0 greatest 7\nslot 11 0 0 holds\nslot 15 0 0 straight 1 -1 0\nend\nend-state\n"
unfolding saved_text digits
four_values = refl

four_values_by_two : saved_text grammar.Two (x_alone ∷ []) true (kept 4 (x ∷ []) [] (held 4 (x ∷ []) ∷ []) all_slots ∷ [])
    ≡ codes "daikon-state 2\ncomparability implicit\npoints 1\npoint P\nvar int -1 -1 x\nend\nsamples 0 4\nclass 0\npattern 4 1\nslot 2 0 least 1\nslot 3 0 greatest 7\nslot 11 0 0 holds\nslot 15 0 0 straight 1 -1 0\nslot 67 0 0 0 span 1 1 1 7 7 7\nend\nend-state\n"
unfolding saved_text digits
four_values_by_two = refl

-- ---- its first two values
two_values : saved_text grammar.Two (x_alone ∷ []) true
    (kept 2 (x ∷ []) [] (held 2 (x ∷ []) ∷ [])
    (slot 1 (x ∷ []) (Ints (pos 1 ∷ pos 2 ∷ [])) ∷ slot 2 (x ∷ []) (Least (pos 1)) ∷ slot 3 (x ∷ []) (Greatest (pos 2)) ∷ slot 11 (x ∷ x ∷ []) Holds
    ∷ slot 15 (x ∷ x ∷ []) (Straight (pos 1) (negsuc 0) (pos 0)) ∷ slot 67 (x ∷ x ∷ x ∷ []) (Span (pos 1) (pos 1) (pos 1) (pos 2) (pos 2) (pos 2)) ∷ [])
    ∷ [])
    ≡ codes "daikon-state 2\ncomparability implicit\npoints 1\npoint P\nvar int -1 -1 x\nend\nsamples 0 2\nclass 0\npattern 2 1\nslot 1 0 ints 1 2\nslot 2 0 least 1\nslot 3 0 greatest 2\nslot 11 0 0 holds\nslot 15 0 0 straight 1 -1 0\nslot 67 0 0 0 span 1 1 1 2 2 2\nend\nend-state\n"
unfolding saved_text digits
two_values = refl

-- ---- no points
nothing : saved_text grammar.Two [] false [] ≡ codes "daikon-state 2\ncomparability none\npoints 0\nend-state\n"
unfolding saved_text digits
nothing = refl

-- ---- edges, mapped variables, constants and names with blanks; an implicit exit is no declared point, but counts among the places
abbrev parent : EdgeDecl
parent = record { parent = codes "Stack of \\"; id = 1 }

abbrev exit : PointDecl
exit = point (codes "f():::EXIT1") (parent ∷ [])
    (variable (Some kind.Hash) (pos 3) (pos 4) (codes "a b") None false (record { edge = 0; name = codes "this one" } ∷ [])
    ∷ variable None (negsuc 0) (negsuc 0) (codes "d") None true []
    ∷ variable (Some kind.StrSeq) (pos 1) (negsuc 0) (codes "s[..]") (Some (value.StrSeq (codes "\"q r\"" ∷ codes "null" ∷ []))) true []
    ∷ [])

declared : saved_text grammar.One (implicit_exit exit ∷ declared_point exit ∷ []) false []
    ≡ codes "daikon-state 1\ncomparability none\npoints 1\npoint f():::EXIT1\nedge 1 Stack\\_of\\_\\\\\nvar hashcode 3 4 a\\_b\nmapped 0 this\\_one\nvar double -1 -1 d\nconstant missing\nvar java.lang.String[] 1 -1 s[..]\nconstant [\"q r\" null]\nend\nend-state\n"
unfolding saved_text digits
declared = refl

-- ---- classes, patterns in their order, constants and the other states; a point without samples has no lines
abbrev y : VarId
y = var 1

abbrev z : VarId
z = var 3

much : saved_text grammar.Two [] true
    (kept 0 (x ∷ []) [] [] []
    ∷ kept 9 (x ∷ y ∷ x ∷ z ∷ []) ((y, value.Missing) ∷ (z, value.Hash 31) ∷ []) (held 3 (x ∷ z ∷ []) ∷ held 6 (z ∷ []) ∷ [])
    (slot 5 (x ∷ []) (Modulus 4 3) ∷ slot 5 (y ∷ []) (One (negsuc 6)) ∷ slot 6 (x ∷ []) (Truth false) ∷ slot 7 (x ∷ []) (Code 0) ∷ slot 9 (x ∷ []) (Texts (codes "\"a b\"" ∷ codes "null" ∷ []))
    ∷ slot 15 (x ∷ z ∷ []) (Spot (pos 2) (negsuc 0)) ∷ slot 16 (x ∷ y ∷ []) Empty ∷ slot 67 (x ∷ x ∷ z ∷ []) (Plane (pos 1) (pos 0) (negsuc 1) (pos 5)) ∷ slot 68 (x ∷ z ∷ []) (Offset (negsuc 2)) ∷ [])
    ∷ kept 2 [] [] (held 2 [] ∷ []) []
    ∷ [])
    ≡ codes "daikon-state 2\ncomparability implicit\npoints 0\nsamples 1 9\nclass 0 2\nclass 1\nclass 3\npattern 6 001\npattern 3 101\nknown 1 missing\nknown 3 0x1f\nslot 5 0 modulus 4 3\nslot 5 1 one -7\nslot 6 0 truth false\nslot 7 0 code null\nslot 9 0 texts \"a b\" null\nslot 15 0 3 spot 2 -1\nslot 16 0 1 empty\nslot 67 0 0 3 plane 1 0 -2 5\nslot 68 0 3 offset -3\nend\nsamples 2 2\npattern 2\nend\nend-state\n"
unfolding saved_text digits
much = refl
