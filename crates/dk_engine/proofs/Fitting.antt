-- Tuples with a leader that doesn't suit its role give no slot.
use Rattle.std.specs.Prelude.{◌≡◌, ◌&&◌, ◌++◌, ◌∷◌, [], Bool, true, false, List, filter, flat_map, if◌then◌else◌, length, not, refl, slice_get}
use Rattle.std.proofs.Common.{ap, ◌∙◌, sym}
use Rattle.std.proofs.lemmas.Bool.{and_left, and_right}
use Rattle.dk_base.specs.declared.kinds.VarId.{VarId}
use Rattle.dk_base.specs.declared.kinds.VarInfo.{VarInfo}
use Rattle.dk_constants.specs.Known.{Entries}
use Rattle.dk_forms.specs.declared.states.State.{State}
use Rattle.dk_template.specs.Admitted.{is_written, suit, suits}
use Rattle.dk_template.specs.Templates.{roles_of, template_of}
use Rattle.dk_template.specs.declared.grammar.RowId.{RowId}
use Rattle.dk_template.specs.declared.templates.Role.{Role}
use Rattle.dk_template.specs.declared.templates.Takes.TheVariants.{One, Two, Three}
use Rattle.dk_suppress.specs.Rules.{is_suppressed}
use Rattle.dk_engine.proofs.Slotless.{not_considered}
use Rattle.dk_engine.proofs.Spread.{of_one, of_three, of_two}
use Rattle.dk_engine.specs.Feeding.{is_broken, slots_of_row}
use Rattle.dk_engine.specs.Reading.Parts.{all_known}
use Rattle.dk_engine.specs.Sweeps.Suited.{suited_vars}
use Rattle.dk_engine.specs.Sweeps.{behind, considered, firsts, pairs, seconds, thirds, triples}

-- ---- lists of slots, element by element
none_each : {A B : Type 0} (f : A → List B) → ((x : A) → f x ≡ []) → (xs : List A) → flat_map f xs ≡ []
none_each f none [] = refl
none_each f none (x ∷ xs) = ap (λ ys. ys ++ flat_map f xs) (none x) ∙ none_each f none xs

same_each : {A B : Type 0} (f g : A → List B) → ((x : A) → f x ≡ g x) → (xs : List A) → flat_map f xs ≡ flat_map g xs
same_each f g same [] = refl
same_each f g same (x ∷ xs) = ap (λ ys. ys ++ flat_map f xs) (same x) ∙ ap (λ ys. g x ++ ys) (same_each f g same xs)

-- those that fail a test give nothing
module _ {A B : Type 0} (f : A → List B) (q : A → Bool) where
  without : (x : A) (xs : List A) → (q x ≡ false → f x ≡ []) → (b : Bool) → q x ≡ b → flat_map f (filter q xs) ≡ flat_map f xs
      → flat_map f (if b then x ∷ filter q xs else filter q xs) ≡ f x ++ flat_map f xs
  without x xs none true e rest = ap (λ ys. f x ++ ys) rest
  without x xs none false e rest = rest ∙ ap (λ ys. ys ++ flat_map f xs) (sym (none e))

  filtered : ((x : A) → q x ≡ false → f x ≡ []) → (xs : List A) → flat_map f (filter q xs) ≡ flat_map f xs
  filtered none [] = refl
  filtered none (x ∷ xs) = without x xs (none x) (q x) refl (filtered none xs)

module _ (infos : List VarInfo) (known : Entries) (answered : RowId → List VarId → State) (row : RowId) where
  abbrev at_role : Role → VarId → Bool
  at_role role v = suits role (slice_get infos v.0)

  unsuited : (roles : List Role) → roles_of (template_of row).takes ≡ roles → (vars : List VarId) → suit roles infos vars ≡ false → considered infos known answered row vars ≡ []
  unsuited roles e vars h =
      not_considered infos known answered row vars
      (ap (λ b. b && (is_written row vars && (not (all_known known vars) && (not (is_broken (answered row vars)) && not (is_suppressed answered row vars))))) (ap (λ rs. suit rs infos vars) e ∙ h))

  -- ---- of one role, of two and of three
  pub firsts_suited : (a : Role) → (template_of row).takes ≡ One a → (first : List VarId) → firsts infos known answered row (suited_vars a infos first) ≡ firsts infos known answered row first
  firsts_suited a e first =
      filtered (λ v. considered infos known answered row (v ∷ [])) (at_role a) (λ v h. unsuited (a ∷ []) (ap roles_of e) (v ∷ []) (and_left (at_role a v) true h)) first

  pub pairs_suited : (a b : Role) → (template_of row).takes ≡ Two a b → (first second : List VarId)
      → pairs infos known answered row (suited_vars a infos first) (suited_vars b infos second) ≡ pairs infos known answered row first second
  pairs_suited a b e first second =
      let misfit : (v w : VarId) → at_role a v && (at_role b w && true) ≡ false → considered infos known answered row (v ∷ w ∷ []) ≡ [] = λ v w h. unsuited (a ∷ b ∷ []) (ap roles_of e) (v ∷ w ∷ []) h in
      let left = suited_vars b infos second in
      let inner : (v : VarId) → seconds infos known answered row v left ≡ seconds infos known answered row v second = λ v.
      filtered (λ w. considered infos known answered row (v ∷ w ∷ [])) (at_role b) (λ w h. misfit v w (and_right (at_role a v) (at_role b w && true) (and_left (at_role b w) true h))) second in
      filtered (λ v. seconds infos known answered row v left) (at_role a)
      (λ v h. none_each (λ w. considered infos known answered row (v ∷ w ∷ [])) (λ w. misfit v w (and_left (at_role a v) (at_role b w && true) h)) left) first
      ∙ same_each (λ v. seconds infos known answered row v left) (λ v. seconds infos known answered row v second) inner first

  -- of leaders that pass tests, where none that fails one suits the role
  pub triples_filtered : (a b c : Role) → (template_of row).takes ≡ Three a b c → (p q r : VarId → Bool)
      → ((v : VarId) → p v ≡ false → at_role a v ≡ false) → ((v : VarId) → q v ≡ false → at_role b v ≡ false) → ((v : VarId) → r v ≡ false → at_role c v ≡ false) → (first second third : List VarId)
      → triples infos known answered row (filter p first) (filter q second) (filter r third) ≡ triples infos known answered row first second third
  triples_filtered a b c e p q r ps qs rs first second third =
      let misfit : (v w x : VarId) → at_role a v && (at_role b w && (at_role c x && true)) ≡ false → considered infos known answered row (v ∷ w ∷ x ∷ []) ≡ [] = λ v w x h. unsuited (a ∷ b ∷ c ∷ []) (ap roles_of e) (v ∷ w ∷ x ∷ []) h in
      let second_left = filter q second in
      let third_left = filter r third in
      let inmost : (v w : VarId) → thirds infos known answered row v w third_left ≡ thirds infos known answered row v w third = λ v w.
      filtered (λ x. considered infos known answered row (v ∷ w ∷ x ∷ [])) r
      (λ x h. misfit v w x (and_right (at_role a v) (at_role b w && (at_role c x && true)) (and_right (at_role b w) (at_role c x && true) (and_left (at_role c x) true (rs x h))))) third in
      let inner : (v : VarId) → behind infos known answered row v second_left third_left ≡ behind infos known answered row v second third = λ v.
      filtered (λ w. thirds infos known answered row v w third_left) q
      (λ w h. none_each (λ x. considered infos known answered row (v ∷ w ∷ x ∷ [])) (λ x. misfit v w x (and_right (at_role a v) (at_role b w && (at_role c x && true)) (and_left (at_role b w) (at_role c x && true) (qs w h)))) third_left) second
      ∙ same_each (λ w. thirds infos known answered row v w third_left) (λ w. thirds infos known answered row v w third) (inmost v) second in
      filtered (λ v. behind infos known answered row v second_left third_left) p
      (λ v h. none_each (λ w. thirds infos known answered row v w third_left)
      (λ w. none_each (λ x. considered infos known answered row (v ∷ w ∷ x ∷ [])) (λ x. misfit v w x (and_left (at_role a v) (at_role b w && (at_role c x && true)) (ps v h))) third_left) second_left) first
      ∙ same_each (λ v. behind infos known answered row v second_left third_left) (λ v. behind infos known answered row v second third) inner first

  pub triples_suited : (a b c : Role) → (template_of row).takes ≡ Three a b c → (first second third : List VarId)
      → triples infos known answered row (suited_vars a infos first) (suited_vars b infos second) (suited_vars c infos third) ≡ triples infos known answered row first second third
  triples_suited a b c e first second third = triples_filtered a b c e (at_role a) (at_role b) (at_role c) (λ v h. h) (λ v h. h) (λ v h. h) first second third

  -- ---- of lists that are so found
  -- those that suit a role, by the same variables
  pub found : (a : Role) (there : List VarInfo) (vars list : List VarId) → there ≡ infos → list ≡ suited_vars a there vars → list ≡ suited_vars a infos vars
  found a there vars list same is = is ∙ ap (λ i. suited_vars a i vars) same

  pub firsts_found : (a : Role) → (template_of row).takes ≡ One a → (first f : List VarId) → f ≡ suited_vars a infos first → firsts infos known answered row f ≡ firsts infos known answered row first
  firsts_found a e first f is = ap (firsts infos known answered row) is ∙ firsts_suited a e first

  pub pairs_found : (a b : Role) → (template_of row).takes ≡ Two a b → (first second f g : List VarId) → f ≡ suited_vars a infos first → g ≡ suited_vars b infos second
      → pairs infos known answered row f g ≡ pairs infos known answered row first second
  pairs_found a b e first second f g is js = ap (λ l. pairs infos known answered row l g) is ∙ (ap (pairs infos known answered row (suited_vars a infos first)) js ∙ pairs_suited a b e first second)

  pub triples_found : (a b c : Role) → (template_of row).takes ≡ Three a b c → (first second third f g h : List VarId)
      → f ≡ suited_vars a infos first → g ≡ suited_vars b infos second → h ≡ suited_vars c infos third
      → triples infos known answered row f g h ≡ triples infos known answered row first second third
  triples_found a b c e first second third f g h is js ks =
      ap (λ l. triples infos known answered row l g h) is
      ∙ (ap (λ l. triples infos known answered row (suited_vars a infos first) l h) js
      ∙ (ap (λ l. triples infos known answered row (suited_vars a infos first) (suited_vars b infos second) l) ks ∙ triples_suited a b c e first second third))

  -- ---- all of a row
  pub row_of_one : (a : Role) → (template_of row).takes ≡ One a → (leaders : List VarId) → firsts infos known answered row leaders ≡ slots_of_row infos leaders known answered row
  row_of_one a e leaders = of_one infos known answered row leaders (ap (λ t. length (roles_of t)) e)

  pub row_of_two : (a b : Role) → (template_of row).takes ≡ Two a b → (leaders : List VarId)
      → pairs infos known answered row leaders leaders ≡ slots_of_row infos leaders known answered row
  row_of_two a b e leaders = of_two infos known answered row leaders (ap (λ t. length (roles_of t)) e)

  pub row_of_three : (a b c : Role) → (template_of row).takes ≡ Three a b c → (leaders : List VarId)
      → triples infos known answered row leaders leaders leaders ≡ slots_of_row infos leaders known answered row
  row_of_three a b c e leaders = of_three infos known answered row leaders (ap (λ t. length (roles_of t)) e)
