-- What is no word.
use Rattle.std.proofs.Common.{◌≡◌, ℕ, ℤ, false, List, codes, refl, ap, ◌∙◌}
use Rattle.std.specs.Prelude.{unsigned_abs}
use Rattle.std.specs.Str.{bytes_eq}
use Rattle.std.proofs.lemmas.Bool.{false_from_ne_true, or_from}
use Rattle.std.proofs.lemmas.Slice.Eq.{bytes_eq-Decides}
use Rattle.dk_base.specs.Numbers.{fits_i64, fits_u64, whole_of}
use Rattle.dk_base.specs.Values.Items.{hash_code_of, hash_item, int_item, is_missing_word, item_in_range, item_map}
use Rattle.dk_base.specs.declared.values.items.Item.{Item}
use Rattle.dk_base.specs.declared.values.items.Item.TheVariants.{Bad}

-- where a function gives nothing for a word and something for the text, the text is not that word
no_word : {A : Type 0} (f : List ℕ → Item A) (text word : List ℕ) → f word ≡ Bad → (f text ≡ Bad → ⊥) → bytes_eq text word ≡ false
no_word f text word bad good = false_from_ne_true (bytes_eq text word) (λ e. good (ap f ((bytes_eq-Decides text word).0 e) ∙ bad))

no_missing_word : {A : Type 0} (f : List ℕ → Item A) (text : List ℕ) → f (codes "nonsensical") ≡ Bad → f (codes "uninit") ≡ Bad → f (codes "missing") ≡ Bad
    → (f text ≡ Bad → ⊥) → is_missing_word text ≡ false
no_missing_word f text a b c good =
    or_from _ _ (or_from _ _ (no_word f text (codes "nonsensical") a good) (no_word f text (codes "uninit") b good)) (no_word f text (codes "missing") c good)

abbrev number : List ℕ → Item ℤ
number text = item_in_range fits_i64 (whole_of text)

-- what is read as a number is none of the words
pub int_by_number : (text : List ℕ) → (number text ≡ Bad → ⊥) → number text ≡ int_item text
unfolding int_item whole_of
int_by_number text good =
    rw (no_missing_word number text refl refl refl good, no_word number text (codes "true") refl good, no_word number text (codes "false") refl good) refl

abbrev code : List ℕ → Item ℕ
code text = item_map unsigned_abs (item_in_range fits_u64 (hash_code_of text))

pub hash_by_number : (text : List ℕ) → (code text ≡ Bad → ⊥) → code text ≡ hash_item text
unfolding hash_item hash_code_of whole_of
hash_by_number text good =
    rw (no_missing_word code text refl refl refl good, no_word code text (codes "null") refl good) refl
