-- Entries one after another, read one by one.
use Rattle.std.specs.Prelude.{◌≡◌, ◌++◌, ◌∷◌, [], ℕ, true, false, All, Bool, List, flat_map, refl}
use Rattle.std.proofs.Common.{◌∙◌, ap, append_assoc, append-nil, subst, sym}
use Rattle.std.proofs.lemmas.Bool.{false≢true}
use Rattle.std.proofs.lemmas.List.Elements.{All-head, All-tail}

pub all_behind : {X : Type 0} (P : X → Type 0) (xs ys : List X) → All P (xs ++ ys) → All P ys
all_behind P [] ys all = all
all_behind P (x ∷ xs) ys all = all_behind P xs ys (All-tail P x (xs ++ ys) all)

-- of these entries in front of the rest these have been read, and the bytes are those of the others and the rest
pub record GoesOn {T : Type 0} (text : T → List ℕ) (xs : List T) (rest : List ℕ) (read : List T) (front : List ℕ) : Type 0 where
  pub left : List T
  pub all : xs ≡ read ++ left
  pub here : front ≡ flat_map text left ++ rest

pub none_read : {T : Type 0} (text : T → List ℕ) (xs : List T) (rest front : List ℕ) → front ≡ flat_map text xs ++ rest → GoesOn text xs rest [] front
none_read text xs rest front is = record { left = xs; all = refl; here = is }

module _ {T : Type 0} (text : T → List ℕ) (fits : T → Type 0) (begins : List ℕ → Bool) (follows : List ℕ → Type 0)
    (first : (x : T) (rest : List ℕ) → fits x → begins (text x ++ rest) ≡ true) (follow : (x : T) (rest : List ℕ) → fits x → follows (text x ++ rest)) where
  behind : (ys : List T) (rest : List ℕ) → All fits ys → follows rest → follows (flat_map text ys ++ rest)
  behind [] rest all last = last
  behind (y ∷ ys) rest all last = subst follows (sym (append_assoc (text y) (flat_map text ys) rest)) (follow y (flat_map text ys ++ rest) (All-head fits y ys all))

  -- one more
  pub one_read : (xs : List T) (rest : List ℕ) (read next : List T) (front new : List ℕ) (own : T) → All fits xs → begins rest ≡ false → follows rest
      → begins front ≡ true → ((x : T) (more : List ℕ) → fits x → follows more → front ≡ text x ++ more → (own ≡ x) × (new ≡ more))
      → next ≡ read ++ own ∷ [] → GoesOn text xs rest read front → GoesOn text xs rest next new
  one_read xs rest read next front new own all ended last is_next reads pushed g = go g.left g.all g.here
    where
      go : (left : List T) → xs ≡ read ++ left → front ≡ flat_map text left ++ rest → GoesOn text xs rest next new
      go [] e here = absurd (false≢true (sym ended ∙ ap begins (sym here) ∙ is_next))
      go (y ∷ ys) e here =
          let of_left : All fits (y ∷ ys) = all_behind fits read (y ∷ ys) (subst (All fits) e all) in
          let found = reads y (flat_map text ys ++ rest) (All-head fits y ys of_left) (behind ys rest (All-tail fits y ys of_left) last)
          (here ∙ append_assoc (text y) (flat_map text ys) rest) in
          record {
            left = ys;
            all = e ∙ sym (append_assoc read (y ∷ []) ys) ∙ ap (λ zs. zs ++ ys) (ap (λ z. read ++ z ∷ []) (sym found.0) ∙ sym pushed);
            here = found.1;
          }

  -- where none comes next all have been read
  pub all_read : (xs : List T) (rest : List ℕ) (read : List T) (front : List ℕ) → All fits xs → begins front ≡ false → GoesOn text xs rest read front
      → (read ≡ xs) × (front ≡ rest)
  all_read xs rest read front all ended g = go g.left g.all g.here
    where
      go : (left : List T) → xs ≡ read ++ left → front ≡ flat_map text left ++ rest → (read ≡ xs) × (front ≡ rest)
      go [] e here = (sym (e ∙ append-nil read), here)
      go (y ∷ ys) e here =
          let of_left : All fits (y ∷ ys) = all_behind fits read (y ∷ ys) (subst (All fits) e all) in
          absurd (false≢true (sym ended ∙ ap begins (here ∙ append_assoc (text y) (flat_map text ys) rest)
          ∙ first y (flat_map text ys ++ rest) (All-head fits y ys of_left)))
