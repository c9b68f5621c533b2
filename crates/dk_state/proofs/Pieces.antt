-- A text that grows by pieces.
use Rattle.std.specs.Prelude.{◌≡◌, ◌<◌, ◌+◌, ◌++◌, ◌∷◌, [], ℕ, List, Result, Ok, Err, OnOk, flat_map, length, map, take}
use Rattle.dk_base.specs.declared.memory.NoMemory.{NoMemory}
use Rattle.std.proofs.Common.{◌∙◌, ap, append_assoc, get_or, subst, sym}
use Rattle.std.proofs.lemmas.List.{append-nil, flat_map_more, get_or_default, map_more, take_more}
use Rattle.dk_state.specs.Lines.{behind_blank, fields_text}

module _ {X : Type 0} (piece : X → List ℕ) (items : List X) (i : ℕ) where
  -- one piece more
  pub one_more : (item : X) (start text next : List ℕ) → i < length items → item ≡ get_or items i item
      → text ≡ start ++ flat_map piece (take i items) → next ≡ text ++ piece item
      → next ≡ start ++ flat_map piece (take (i + 1) items)
  one_more item start text next lt here so_far step =
      step
      ∙ ap (λ (t : List ℕ). t ++ piece item) so_far
      ∙ flat_map_more piece start (take i items) item
      ∙ ap (λ l. start ++ flat_map piece l) (ap (λ x. take i items ++ x ∷ []) here ∙ sym (take_more items i item lt))

  -- the same at any default
  pub one_more_at : (d : X) (start text next : List ℕ) → i < length items
      → text ≡ start ++ flat_map piece (take i items) → next ≡ text ++ piece (get_or items i d)
      → next ≡ start ++ flat_map piece (take (i + 1) items)
  one_more_at d start text next lt so_far step = one_more (get_or items i d) start text next lt (get_or_default items i d (get_or items i d) lt) so_far step

-- one field more
pub one_field_more : {X : Type 0} (field : X → List ℕ) (items : List X) (i : ℕ) (d : X) (start text next : List ℕ) → i < length items
    → text ≡ start ++ fields_text (map field (take i items)) → next ≡ text ++ behind_blank (field (get_or items i d))
    → next ≡ start ++ fields_text (map field (take (i + 1) items))
one_field_more field items i d start text next lt so_far step =
    step ∙ ap (λ (t : List ℕ). t ++ behind_blank (field (get_or items i d))) so_far
    ∙ flat_map_more behind_blank start (map field (take i items)) (field (get_or items i d))
    ∙ ap (λ fs. start ++ fields_text fs) (sym (map_more field items i d lt))

-- a field, and then others
pub field_first : (start middle next field : List ℕ) (fields : List (List ℕ)) (r : Result (Unit {0}) NoMemory) → middle ≡ start ++ behind_blank field
    → OnOk r (next ≡ middle ++ fields_text fields) → OnOk r (next ≡ start ++ fields_text (field ∷ fields))
field_first start middle next field fields r e =
    subst (λ t. OnOk r (next ≡ t)) (ap (λ m. m ++ fields_text fields) e ∙ append_assoc start (behind_blank field) (fields_text fields))

-- a word, three fields, and three more
pub three_and_three : (start word a b c d e f : List ℕ)
    → (start ++ word ++ (behind_blank a ++ (behind_blank b ++ behind_blank c))) ++ (behind_blank d ++ (behind_blank e ++ behind_blank f))
    ≡ start ++ (word ++ fields_text (a ∷ b ∷ c ∷ d ∷ e ∷ f ∷ []))
three_and_three start word a b c d e f = simp (append_assoc, append-nil)

-- a head of three parts, and a body
pub head_and_body : (start a b c body : List ℕ) → start ++ (a ++ (b ++ c)) ++ body ≡ start ++ (a ++ (b ++ (c ++ body)))
head_and_body start a b c body = simp append_assoc

pub on_ok_weaker : {P Q : Type 0} (r : Result (Unit {0}) NoMemory) → (P → Q) → OnOk r P → OnOk r Q
on_ok_weaker (Ok x) f h = f h
on_ok_weaker (Err e) f h = h
