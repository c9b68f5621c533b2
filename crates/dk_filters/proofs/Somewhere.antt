-- A search among choices, role by role.
use Rattle.std.specs.Prelude.{◌≡◌, ◌<◌, ◌≤◌, ◌+◌, ◌||◌, ◌++◌, ℕ, Bool, true, false, List, [], ◌∷◌, drop, length, map, slice_index_or, take, refl}
use Rattle.std.specs.List.{list_all, list_any}
use Rattle.std.proofs.Common.{ap, set, subst, sym, ◌∙◌}
use Rattle.std.proofs.lemmas.Bool.{false≢true}
use Rattle.std.proofs.lemmas.List.{drop_all, drop_more, get_or_default, take_more_set}
use Rattle.std.proofs.lemmas.List.Folds.{list_all_at}
use Rattle.dk_base.specs.declared.kinds.VarId.{VarId}
use Rattle.dk_filters.proofs.Choices.{all_end, all_step, some_end, some_step}
use Rattle.dk_filters.specs.Choices.{all_from, some_from}
use Rattle.dk_filters.specs.Found.{listed_at}

-- ---- a test of each item from a place on
module _ {A : Type 0} (p : A → Bool) (xs : List A) (i : ℕ) where
  module _ (x : A) (within : i < length xs) (is : x ≡ slice_index_or xs i x) where
    any_turn : list_any p (drop i xs) ≡ (p x || list_any p (drop (i + 1) xs))
    any_turn = ap (list_any p) (drop_more xs i x within ∙ ap (λ y. y ∷ drop (i + 1) xs) (sym is))

    pub any_passes : list_any p (drop i xs) ≡ list_any p xs → p x ≡ true → list_any p xs ≡ true
    any_passes so passes = sym so ∙ (any_turn ∙ ap (λ b. b || list_any p (drop (i + 1) xs)) passes)

    pub any_fails : list_any p (drop i xs) ≡ list_any p xs → p x ≡ false → list_any p (drop (i + 1) xs) ≡ list_any p xs
    any_fails so fails = sym (any_turn ∙ ap (λ b. b || list_any p (drop (i + 1) xs)) fails) ∙ so

  pub any_none : length xs ≤ i → list_any p (drop i xs) ≡ list_any p xs → list_any p xs ≡ false
  any_none past so = sym so ∙ ap (list_any p) (drop_all i xs past)

all_at : {A : Type 0} (p : A → Bool) (xs : List A) → list_all p xs ≡ true → (i : ℕ) (x : A) → i < length xs → x ≡ slice_index_or xs i x → p x ≡ true
all_at p xs all i x within is = ap p is ∙ by_case (p (slice_index_or xs i x)) refl
  where
    by_case : (b : Bool) → p (slice_index_or xs i x) ≡ b → p (slice_index_or xs i x) ≡ true
    by_case true e = e
    by_case false e = absurd (false≢true (sym (list_all_at p xs i x within e) ∙ all))

-- ---- choices for the roles from one on
module _ (test : List VarId → Bool) (listed : List (List VarId)) (tuple chosen : List VarId) (role : ℕ) where
  abbrev pub next : VarId → Bool
  next x = some_from test (take role chosen ++ x ∷ []) (map (listed_at listed) (drop (role + 1) tuple))

  -- all are chosen
  pub somewhere_all : length tuple ≤ role → some_from test (take role chosen) (map (listed_at listed) (drop role tuple)) ≡ test (take role chosen)
  somewhere_all past = ap (λ vs. some_from test (take role chosen) (map (listed_at listed) vs)) (drop_all role tuple past) ∙ some_end test (take role chosen)

  pub admitted_all : length tuple ≤ role → all_from test (take role chosen) (map (listed_at listed) (drop role tuple)) ≡ true → test (take role chosen) ≡ true
  admitted_all past h = all_end test (take role chosen) (ap (λ vs. all_from test (take role chosen) (map (listed_at listed) vs)) (sym (drop_all role tuple past)) ∙ h)

  module _ (v : VarId) (within : role < length tuple) (is : v ≡ slice_index_or tuple role v) where
    parted : map (listed_at listed) (drop role tuple) ≡ listed_at listed v ∷ map (listed_at listed) (drop (role + 1) tuple)
    parted = ap (map (listed_at listed)) (drop_more tuple role v within ∙ ap (λ x. x ∷ drop (role + 1) tuple) (sym is))

    pub somewhere_next : some_from test (take role chosen) (map (listed_at listed) (drop role tuple)) ≡ list_any next (listed_at listed v)
    somewhere_next = ap (some_from test (take role chosen)) parted ∙ some_step test (take role chosen) (listed_at listed v) (map (listed_at listed) (drop (role + 1) tuple))

    pub admitted_next : all_from test (take role chosen) (map (listed_at listed) (drop role tuple)) ≡ true → role < length chosen → (k : ℕ) (w : VarId) → k < length (listed_at listed v)
        → w ≡ slice_index_or (listed_at listed v) k w → all_from test (take (role + 1) (set chosen role w)) (map (listed_at listed) (drop (role + 1) tuple)) ≡ true
    admitted_next h long k w lt at =
        ap (λ vs. all_from test vs (map (listed_at listed) (drop (role + 1) tuple))) (take_more_set chosen role w long)
        ∙ all_at (λ x. all_from test (take role chosen ++ x ∷ []) (map (listed_at listed) (drop (role + 1) tuple))) (listed_at listed v)
        (sym (ap (all_from test (take role chosen)) parted ∙ all_step test (take role chosen) (listed_at listed v) (map (listed_at listed) (drop (role + 1) tuple))) ∙ h) k w lt at

  pub told_next : (w : VarId) → role < length chosen → some_from test (take (role + 1) (set chosen role w)) (map (listed_at listed) (drop (role + 1) tuple)) ≡ next w
  told_next w long = ap (λ vs. some_from test vs (map (listed_at listed) (drop (role + 1) tuple))) (take_more_set chosen role w long)

  -- what is listed for the role's variable
  module _ (items : List VarId) (within : role < length tuple) (are : items ≡ listed_at listed (slice_index_or tuple role (record { 0 = 0 }))) where
    abbrev var : VarId
    var = slice_index_or tuple role (record { 0 = 0 })

    pub somewhere_items : some_from test (take role chosen) (map (listed_at listed) (drop role tuple)) ≡ list_any next items
    somewhere_items = somewhere_next var within (get_or_default tuple role (record { 0 = 0 }) var within) ∙ ap (list_any next) (sym are)

    pub admitted_items : all_from test (take role chosen) (map (listed_at listed) (drop role tuple)) ≡ true → role < length chosen → (k : ℕ) → k < length items
        → all_from test (take (role + 1) (set chosen role (slice_index_or items k (record { 0 = 0 })))) (map (listed_at listed) (drop (role + 1) tuple)) ≡ true
    admitted_items h long k lt =
        let w : VarId = slice_index_or items k (record { 0 = 0 }) in
        admitted_next var within (get_or_default tuple role (record { 0 = 0 }) var within) h long k w (subst (λ (xs : List VarId). k < length xs) are lt)
        (get_or_default items k (record { 0 = 0 }) w lt ∙ ap (λ (xs : List VarId). slice_index_or xs k w) are)
