-- What a text is read as, a text writes.
use Rattle.std.proofs.Common.{◌≡◌, ◌<◌, ◌^◌, ◌||◌, ◌∷◌, [], ℕ, ℤ, pos, negsuc, Bool, true, false, List, All, IsTrue, Option, Some, None, map, refl, subst, if◌then◌else◌, filter_map, arith, codes}
use Rattle.std.specs.Prelude.{unsigned_abs}
use Rattle.std.specs.List.{list_any}
use Rattle.std.specs.Str.{bytes_eq}
use Rattle.std.proofs.lemmas.Bool.{false≢true, ltb-true}
use Rattle.std.proofs.lemmas.List.Elements.{All-nil, All-cons}
use Rattle.dk_base.specs.Numbers.{fits_i64, fits_u64, whole_of}
use Rattle.dk_base.specs.Pieces.{pieces}
use Rattle.dk_base.specs.Values.{IsOfKind, value_of_text, valued}
use Rattle.dk_base.specs.Values.Items.{bool_item, hash_code_of, hash_item, int_item, is_missing_word, is_text, item_in_range, item_map, str_item}
use Rattle.dk_base.specs.Values.Sequences.{all_of, bracketed, inside, is_bad, is_missing, present, sequence}
use Rattle.dk_base.specs.Values.Spelling.{IsWritten}
use Rattle.dk_base.specs.declared.kinds.Kind.{Kind}
use Rattle.dk_base.specs.declared.kinds.Kind.TheVariants as kind
use Rattle.dk_base.specs.declared.splitting.Cut.TheVariants.{AtBlanksOutsideQuotes}
use Rattle.dk_base.specs.declared.values.Value.{Value}
use Rattle.dk_base.specs.declared.values.Value.TheVariants as value
use Rattle.dk_base.specs.declared.values.items.Item.{Item}
use Rattle.dk_base.specs.declared.values.items.Item.TheVariants.{Bad, Missing, Present}

-- a fact of the value, if the item has one
abbrev pub IfPresent : {A : Type 0} → (A → Type 0) → Item A → Type 0
IfPresent P Bad = Unit {0}
IfPresent P Missing = Unit {0}
IfPresent P (Present x) = P x

-- a choice between items has what each of the two has
of_choice : {A : Type 0} (P : A → Type 0) (b : Bool) (x y : Item A) → (b ≡ true → IfPresent P x) → (b ≡ false → IfPresent P y) → IfPresent P (if b then x else y)
of_choice P true x y h k = h refl
of_choice P false x y h k = k refl

held_fits : (fits : ℤ → Bool) (o : Option ℤ) → IfPresent (λ z. IsTrue (fits z)) (item_in_range fits o)
held_fits fits None = tt
held_fits fits (Some z) = of_choice (λ y. IsTrue (fits y)) (fits z) (Present z) Missing (λ e. e) (λ e. tt)

int_fits : (t : List ℕ) → IfPresent (λ z. IsTrue (fits_i64 z)) (int_item t)
unfolding int_item
int_fits t =
    let P : ℤ → Type 0 = λ z. IsTrue (fits_i64 z) in
    of_choice P (is_missing_word t) _ _ (λ e. tt)
    (λ e. of_choice P (bytes_eq t (codes "true")) _ _ (λ f. refl)
    (λ f. of_choice P (bytes_eq t (codes "false")) _ _ (λ g. refl) (λ g. held_fits fits_i64 (whole_of t))))

below : (z : ℤ) → IsTrue (fits_u64 z) → unsigned_abs z < 2 ^ 64
below (pos n) fits = ltb-true n (2 ^ 64) fits
below (negsuc n) fits = absurd (false≢true fits)

code_fits : (r : Item ℤ) → IfPresent (λ z. IsTrue (fits_u64 z)) r → IfPresent (λ n. n < 2 ^ 64) (item_map unsigned_abs r)
code_fits Bad h = tt
code_fits Missing h = tt
code_fits (Present z) h = below z h

hash_fits : (t : List ℕ) → IfPresent (λ n. n < 2 ^ 64) (hash_item t)
unfolding hash_item
hash_fits t =
    let P : ℕ → Type 0 = λ n. n < 2 ^ 64 in
    of_choice P (is_missing_word t) _ _ (λ e. tt)
    (λ e. of_choice P (bytes_eq t (codes "null")) _ _ (λ f. omega arith) (λ f. code_fits (item_in_range fits_u64 (hash_code_of t)) (held_fits fits_u64 (hash_code_of t))))

str_fits : (t : List ℕ) → IfPresent (λ s. IsTrue (is_text s)) (str_item t)
unfolding str_item
str_fits t =
    let P : List ℕ → Type 0 = λ s. IsTrue (is_text s) in
    of_choice P (is_missing_word t) _ _ (λ e. tt) (λ e. of_choice P (is_text t) _ _ (λ f. f) (λ f. tt))

one_fits : {A : Type 0} (P : A → Type 0) (r : Item A) (rs : List (Item A)) → IfPresent P r → All P (filter_map present rs) → All P (filter_map present (r ∷ rs))
one_fits P Bad rs h others = others
one_fits P Missing rs h others = others
one_fits P (Present x) rs h others = All-cons P x (filter_map present rs) h others

each_fits : {A : Type 0} (P : A → Type 0) (item : List ℕ → Item A) → ((t : List ℕ) → IfPresent P (item t)) → (ts : List (List ℕ)) → All P (filter_map present (map item ts))
each_fits P item fits [] = All-nil P
each_fits P item fits (t ∷ ts) = one_fits P (item t) (map item ts) (fits t) (each_fits P item fits ts)

all_fit : {A : Type 0} (P : A → Type 0) (item : List ℕ → Item A) → ((t : List ℕ) → IfPresent P (item t)) → (ts : List (List ℕ)) → IfPresent (All P) (all_of (map item ts))
all_fit P item fits ts =
    of_choice (All P) (list_any is_bad (map item ts)) _ _ (λ e. tt)
    (λ e. of_choice (All P) (list_any is_missing (map item ts)) _ _ (λ f. tt) (λ f. each_fits P item fits ts))

bracketed_fits : {A : Type 0} (P : A → Type 0) (item : List ℕ → Item A) → ((t : List ℕ) → IfPresent P (item t)) → (o : Option (List ℕ)) → IfPresent (All P) (bracketed item o)
bracketed_fits P item fits None = tt
bracketed_fits P item fits (Some text) = all_fit P item fits (pieces AtBlanksOutsideQuotes text)

sequence_fits : {A : Type 0} (P : A → Type 0) (item : List ℕ → Item A) → ((t : List ℕ) → IfPresent P (item t)) → (t : List ℕ) → IfPresent (All P) (sequence item t)
unfolding sequence
sequence_fits P item fits t =
    of_choice (All P) (is_missing_word t || bytes_eq t (codes "null")) _ _ (λ e. tt) (λ e. bracketed_fits P item fits (inside t))

-- what is read is a value of the kind that a text writes
abbrev Read : Kind → Option Value → Type 0
Read k None = Unit {0}
Read k (Some v) = IsOfKind k v × IsWritten v

of_item : {A : Type 0} (P : A → Type 0) (k : Kind) (make : A → Value) → IsOfKind k value.Missing → ((x : A) → P x → Read k (Some (make x))) → (r : Item A) → IfPresent P r → Read k (valued make r)
of_item P k make missing makes Bad h = tt
of_item P k make missing makes Missing h = (missing, tt)
of_item P k make missing makes (Present x) h = makes x h

any_present : {A : Type 0} (r : Item A) → IfPresent (λ x. Unit {0}) r
any_present Bad = tt
any_present Missing = tt
any_present (Present x) = tt

read : (k : Kind) (t : List ℕ) → Read k (value_of_text k t)
read kind.Bool t = of_item (λ x. Unit {0}) kind.Bool (λ b. value.Bool b) tt (λ x h. (refl, tt)) (bool_item t) (any_present (bool_item t))
read kind.Int t = of_item (λ z. IsTrue (fits_i64 z)) kind.Int (λ z. value.Int z) tt (λ x h. (refl, h)) (int_item t) (int_fits t)
read kind.Hash t = of_item (λ n. n < 2 ^ 64) kind.Hash (λ n. value.Hash n) tt (λ x h. (refl, h)) (hash_item t) (hash_fits t)
read kind.Str t = of_item (λ s. IsTrue (is_text s)) kind.Str (λ s. value.Str s) tt (λ x h. (refl, h)) (str_item t) (str_fits t)
read kind.BoolSeq t = of_item (λ x. Unit {0}) kind.BoolSeq (λ bs. value.BoolSeq bs) tt (λ x h. (refl, tt)) (sequence bool_item t) (any_present (sequence bool_item t))
read kind.IntSeq t = of_item (All (λ z. IsTrue (fits_i64 z))) kind.IntSeq (λ zs. value.IntSeq zs) tt (λ x h. (refl, h)) (sequence int_item t) (sequence_fits (λ z. IsTrue (fits_i64 z)) int_item int_fits t)
read kind.HashSeq t = of_item (All (λ n. n < 2 ^ 64)) kind.HashSeq (λ ns. value.HashSeq ns) tt (λ x h. (refl, h)) (sequence hash_item t) (sequence_fits (λ n. n < 2 ^ 64) hash_item hash_fits t)
read kind.StrSeq t = of_item (All (λ s. IsTrue (is_text s))) kind.StrSeq (λ ss. value.StrSeq ss) tt (λ x h. (refl, h)) (sequence str_item t) (sequence_fits (λ s. IsTrue (is_text s)) str_item str_fits t)

pub read_is_written : (k : Kind) (t : List ℕ) (v : Value) → value_of_text k t ≡ Some v → IsOfKind k v × IsWritten v
read_is_written k t v e = let P : Option Value → Type 0 = Read k in subst P e (read k t)
