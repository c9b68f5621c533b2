-- Values, and the texts that write them.
pub mod Items
pub mod SameValues
pub mod Sequences
pub mod Spelling
pub mod Tuples
use Rattle.std.specs.Prelude.{◌≡◌, ℕ, Bool, true, false, List, map, Option, Some, None, IfSome}
use Rattle.std.specs.Borrow.{Bor}
use Rattle.dk_base.specs.Values.Items.{bool_item, hash_item, int_item, str_item}
use Rattle.dk_base.specs.Values.Sequences.{sequence}
use Rattle.dk_base.specs.declared.values.items.Item.{Item}
use Rattle.dk_base.specs.declared.values.items.Item.TheVariants as item
use Rattle.dk_base.specs.declared.kinds.Kind.{Kind}
use Rattle.dk_base.specs.declared.kinds.Kind.TheVariants as kind
use Rattle.dk_base.specs.declared.values.View.{View}
use Rattle.dk_base.specs.declared.values.View.TheVariants as view
use Rattle.dk_base.specs.declared.values.Value.{Value}
use Rattle.dk_base.specs.declared.values.Value.TheVariants as value

-- the value that a view shows
abbrev pub value_of : View → Value
value_of view.Missing = value.Missing
value_of (view.Bool b) = value.Bool b
value_of (view.Int z) = value.Int z
value_of (view.Hash n) = value.Hash n
value_of (view.Str s) = value.Str s.now
value_of (view.BoolSeq s) = value.BoolSeq s.now
value_of (view.IntSeq s) = value.IntSeq s.now
value_of (view.HashSeq s) = value.HashSeq s.now
value_of (view.StrSeq s) = value.StrSeq (map (λ (t : Bor (List ℕ)). t.now) s.now)

abbrev pub values_of : List View → List Value
values_of views = map value_of views

-- the kind of a value; the missing one has none
abbrev pub kind_of : Value → Option Kind
kind_of value.Missing = None
kind_of (value.Bool b) = Some kind.Bool
kind_of (value.Int z) = Some kind.Int
kind_of (value.Hash n) = Some kind.Hash
kind_of (value.Str s) = Some kind.Str
kind_of (value.BoolSeq bs) = Some kind.BoolSeq
kind_of (value.IntSeq zs) = Some kind.IntSeq
kind_of (value.HashSeq ns) = Some kind.HashSeq
kind_of (value.StrSeq ss) = Some kind.StrSeq

-- a value that is more than a number or a truth: a string, or a sequence
abbrev pub has_items : Value → Bool
has_items value.Missing = false
has_items (value.Bool b) = false
has_items (value.Int z) = false
has_items (value.Hash n) = false
has_items _ = true

-- a value of the kind; the missing one is of every kind
abbrev pub IsOfKind : Kind → Value → Type 0
IsOfKind k v = IfSome (kind_of v) (λ own. own ≡ k)

-- no value, the missing one, or what `make` makes of the item
abbrev pub valued : {A : Type 0} → (A → Value) → Item A → Option Value
valued make item.Bad = None
valued make item.Missing = Some value.Missing
valued make (item.Present x) = Some (make x)

-- the value that a text of this kind writes, or none
abbrev pub value_of_text : Kind → List ℕ → Option Value
value_of_text kind.Bool text = valued (λ b. value.Bool b) (bool_item text)
value_of_text kind.Int text = valued (λ z. value.Int z) (int_item text)
value_of_text kind.Hash text = valued (λ n. value.Hash n) (hash_item text)
value_of_text kind.Str text = valued (λ s. value.Str s) (str_item text)
value_of_text kind.BoolSeq text = valued (λ bs. value.BoolSeq bs) (sequence bool_item text)
value_of_text kind.IntSeq text = valued (λ zs. value.IntSeq zs) (sequence int_item text)
value_of_text kind.HashSeq text = valued (λ ns. value.HashSeq ns) (sequence hash_item text)
value_of_text kind.StrSeq text = valued (λ ss. value.StrSeq ss) (sequence str_item text)
