-- Lines nest three levels deep.
use Rattle.std.proofs.Common.{◌≤◌, ℕ, Bool, true, false, List, [], ◌∷◌, Option, Some, None, arith, map}
use Rattle.std.specs.Prelude.{if◌then◌else◌, slice_get}
use Rattle.std.specs.Str.{is_utf8}
use Rattle.json.specs.Json.{Json, string, array}
use Rattle.json.specs.Tree.{depth, items_depth, members_depth}
use Rattle.dk_base.specs.declared.kinds.VarId.{VarId}
use Rattle.dk_base.specs.declared.kinds.VarInfo.{VarInfo}
use Rattle.dk_forms.specs.declared.states.State.{State}
use Rattle.dk_forms.specs.declared.states.State.TheVariants as state
use Rattle.dk_json.specs.Lines.{line_json, name_in, names_json, said_fields}
use Rattle.dk_json.specs.States.{state_fields}
use Rattle.dk_json.specs.Texts.{natural_json, number_json, optional_json, text_json}
use Rattle.dk_json.specs.Trees.{items_of, members_of}
use Rattle.dk_json.specs.declared.lines.Claimed.{Claimed}
use Rattle.dk_json.specs.declared.lines.Instance.{Instance}

-- a list of values that are at most so deep
items_shallow : {X : Type 0} (json : X → Json) (k : ℕ) → ((x : X) → depth (json x) ≤ k) → (xs : List X) → items_depth (items_of (map json xs)) ≤ k
items_shallow json k each [] = omega arith
items_shallow json k each (x ∷ xs) = omega (arith, each x, items_shallow json k each xs)

either_shallow : (b : Bool) (x y : Json) (k : ℕ) → depth x ≤ k → depth y ≤ k → depth (if b then x else y) ≤ k
either_shallow true x y k p q = p
either_shallow false x y k p q = q

text_shallow : (bytes : List ℕ) → depth (text_json bytes) ≤ 1
text_shallow bytes =
    either_shallow (is_utf8 bytes) (string bytes) (array (items_of (map natural_json bytes))) 1 (omega arith)
    (omega (arith, items_shallow natural_json 0 (λ n. omega arith) bytes))

optional_shallow : (samples : Option ℕ) → depth (optional_json samples) ≤ 0
optional_shallow None = omega arith
optional_shallow (Some n) = omega arith

state_shallow : (s : State) → members_depth (members_of (state_fields s)) ≤ 2
state_shallow state.Empty = omega arith
state_shallow state.Broken = omega arith
state_shallow state.Holds = omega arith
state_shallow (state.Least k) = omega arith
state_shallow (state.Greatest k) = omega arith
state_shallow (state.Ints ks) = omega (arith, items_shallow number_json 0 (λ k. omega arith) ks)
state_shallow (state.Truth b) = omega arith
state_shallow (state.Code h) = omega arith
state_shallow (state.Texts ts) = omega (arith, items_shallow text_json 1 text_shallow ts)
state_shallow (state.One k) = omega arith
state_shallow (state.Modulus m r) = omega arith
state_shallow (state.Spot x y) = omega arith
state_shallow (state.Straight a b c) = omega arith
state_shallow (state.Span x1 y1 z1 x2 y2 z2) = omega arith
state_shallow (state.Plane a b c d) = omega arith
state_shallow (state.Offset k) = omega arith

names_shallow : (infos : List VarInfo) (vars : List VarId) → depth (names_json infos vars) ≤ 2
names_shallow infos vars =
    omega (arith, items_shallow (λ (v : VarId). text_json (name_in (slice_get infos v.0))) 1 (λ v. text_shallow (name_in (slice_get infos v.0))) vars)

said_shallow : (said : Option Instance) → members_depth (members_of (said_fields said)) ≤ 3
said_shallow None = omega arith
said_shallow (Some i) = omega (arith, names_shallow i.infos.now i.vars.now, state_shallow i.state.now)

pub line_shallow : (claimed : Claimed) (said : Option Instance) → depth (line_json claimed said) ≤ 128
line_shallow claimed said =
    omega (arith, text_shallow claimed.point.now, text_shallow claimed.text.now, optional_shallow claimed.samples, said_shallow said)
