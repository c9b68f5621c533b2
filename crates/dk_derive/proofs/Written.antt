-- What is derived of written values is written.
use Rattle.std.proofs.Common.{◌<◌, ◌^◌, ℕ, zero, suc, Bool, true, false, nat_le, IsTrue, All, List, [], ◌∷◌, length, take, drop, Option, Some, None, option_and_then, slice_get, if◌then◌else◌}
use Rattle.std.proofs.lemmas.List.Elements.{All-drop, All-head, All-tail, All-take}
use Rattle.std.specs.Option.{option_map_or}
use Rattle.dk_base.specs.Numbers.{fits_i64}
use Rattle.dk_base.specs.Values.Items.{is_text}
use Rattle.dk_base.specs.Values.Spelling.{IsWritten}
use Rattle.dk_base.specs.Values.Tuples.{value_at}
use Rattle.dk_base.specs.declared.values.Value.{Value}
use Rattle.dk_base.specs.declared.values.Value.TheVariants as value
use Rattle.dk_derive.specs.Values.{back, element, front}

pub value_written : (base : List Value) (k : ℕ) → All IsWritten base → IsWritten (value_at base k)
value_written [] k all = tt
value_written (v ∷ vs) zero all = All-head IsWritten v vs all
value_written (v ∷ vs) (suc k) all = value_written vs k (All-tail IsWritten v vs all)

item : {A : Type 0} (P : A → Type 0) (make : A → Value) → ((x : A) → P x → IsWritten (make x)) → (xs : List A) → All P xs → (k : ℕ) → IsWritten (option_map_or make (slice_get xs k) value.Missing)
item P make made [] all k = tt
item P make made (x ∷ xs) all zero = made x (All-head P x xs all)
item P make made (x ∷ xs) all (suc k) = item P make made xs (All-tail P x xs all) k

item_at : {A : Type 0} (P : A → Type 0) (make : A → Value) → ((x : A) → P x → IsWritten (make x)) → (xs : List A) → All P xs → (k : Option ℕ)
    → IsWritten (option_map_or make (option_and_then (slice_get xs) k) value.Missing)
item_at P make made xs all None = tt
item_at P make made xs all (Some k) = item P make made xs all k

pub element_written : (v : Value) (k : Option ℕ) → IsWritten v → IsWritten (element v k)
element_written value.Missing k h = tt
element_written (value.Bool b) k h = tt
element_written (value.Int z) k h = tt
element_written (value.Hash n) k h = tt
element_written (value.Str s) k h = tt
element_written (value.BoolSeq bs) k h = item_at (λ b. Unit {0}) (λ b. value.Bool b) (λ b w. tt) bs (λ i d within. tt) k
element_written (value.IntSeq zs) k h = item_at (λ z. IsTrue (fits_i64 z)) (λ z. value.Int z) (λ z w. w) zs h k
element_written (value.HashSeq ns) k h = item_at (λ n. n < 2 ^ 64) (λ n. value.Hash n) (λ n w. w) ns h k
element_written (value.StrSeq ss) k h = item_at (λ s. IsTrue (is_text s)) (λ s. value.Str s) (λ s w. w) ss h k

part : {A : Type 0} (make : List A → Value) (xs : List A) → IsWritten (make xs) → (b : Bool) → IsWritten (option_map_or make (if b then Some xs else None) value.Missing)
part make xs h true = h
part make xs h false = tt

pub front_written : (v : Value) (k : Option ℕ) → IsWritten v → IsWritten (front v k)
front_written value.Missing k h = tt
front_written (value.Bool b) k h = tt
front_written (value.Int z) k h = tt
front_written (value.Hash n) k h = tt
front_written (value.Str s) k h = tt
front_written (value.BoolSeq bs) None h = tt
front_written (value.IntSeq zs) None h = tt
front_written (value.HashSeq ns) None h = tt
front_written (value.StrSeq ss) None h = tt
front_written (value.BoolSeq bs) (Some k) h = part (λ xs. value.BoolSeq xs) (take k bs) tt (nat_le k (length bs))
front_written (value.IntSeq zs) (Some k) h = part (λ xs. value.IntSeq xs) (take k zs) (All-take (λ z. IsTrue (fits_i64 z)) k zs h) (nat_le k (length zs))
front_written (value.HashSeq ns) (Some k) h = part (λ xs. value.HashSeq xs) (take k ns) (All-take (λ n. n < 2 ^ 64) k ns h) (nat_le k (length ns))
front_written (value.StrSeq ss) (Some k) h = part (λ xs. value.StrSeq xs) (take k ss) (All-take (λ s. IsTrue (is_text s)) k ss h) (nat_le k (length ss))

pub back_written : (v : Value) (k : Option ℕ) → IsWritten v → IsWritten (back v k)
back_written value.Missing k h = tt
back_written (value.Bool b) k h = tt
back_written (value.Int z) k h = tt
back_written (value.Hash n) k h = tt
back_written (value.Str s) k h = tt
back_written (value.BoolSeq bs) None h = tt
back_written (value.IntSeq zs) None h = tt
back_written (value.HashSeq ns) None h = tt
back_written (value.StrSeq ss) None h = tt
back_written (value.BoolSeq bs) (Some k) h = part (λ xs. value.BoolSeq xs) (drop k bs) tt (nat_le k (length bs))
back_written (value.IntSeq zs) (Some k) h = part (λ xs. value.IntSeq xs) (drop k zs) (All-drop (λ z. IsTrue (fits_i64 z)) k zs h) (nat_le k (length zs))
back_written (value.HashSeq ns) (Some k) h = part (λ xs. value.HashSeq xs) (drop k ns) (All-drop (λ n. n < 2 ^ 64) k ns h) (nat_le k (length ns))
back_written (value.StrSeq ss) (Some k) h = part (λ xs. value.StrSeq xs) (drop k ss) (All-drop (λ s. IsTrue (is_text s)) k ss h) (nat_le k (length ss))
