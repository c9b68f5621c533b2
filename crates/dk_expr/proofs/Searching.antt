-- A name is looked for in the front of a text, at the lengths that names have.
use Rattle.std.specs.Prelude.{◌≡◌, ◌+◌, ◌<◌, ◌||◌, ◌⊎◌, ℕ, Bool, true, false, Contains, List, [], ◌++◌, drop, if◌then◌else◌, length, map, nat_eq, take, refl}
use Rattle.std.proofs.Common.{◌∙◌, ap, arith, inl, inr, subst, sym}
use Rattle.std.proofs.lemmas.Bool.{false≢true}
use Rattle.std.proofs.lemmas.List.{drop_at, get_or-map, length-append, length-map, take_at}
use Rattle.std.proofs.lemmas.List.Elements.{Contains-append_left, Contains-append_right}
use Rattle.dk_base.specs.declared.kinds.VarId.{VarId}
use Rattle.dk_graph.specs.Notes.{noted_under}
use Rattle.dk_print.specs.Parts.{Part}
use Rattle.dk_expr.specs.Following.{past, with_var}
use Rattle.dk_expr.specs.Naming.{HaveLengths, Listed, has_length}
use Rattle.dk_expr.specs.Readable.{may_be}
use Rattle.dk_expr.specs.declared.found.Parsed.{Parsed}

pub contains_map : {X Y : Type 0} (f : X → Y) (xs : List X) (x : X) → Contains xs x → Contains (map f xs) (f x)
contains_map f xs x (k, lt, is) = (k, subst (λ n. k < n) (sym (length-map xs f)) lt, get_or-map f xs k x (f x) lt ∙ ap f is)

-- names of these lengths are looked up
pub record IsSearched (listed : Listed) (role : ℕ) (following : List Part) (found : Parsed) (rest : List ℕ) (old new : List Parsed) (lengths : List ℕ) : Type 0 where
  pub keeps : (x : Parsed) → Contains old x → Contains new x
  pub finds : (name more : List ℕ) (v : VarId) → has_length lengths (length name) ≡ true → rest ≡ name ++ more → may_be following more ≡ true → Contains (noted_under listed name) v → Contains new (with_var role v (past (length name) found))

module _ (listed : Listed) (role : ℕ) (following : List Part) (found : Parsed) (rest : List ℕ) (old : List Parsed) where
  pub none_searched : IsSearched listed role following found rest old old []
  none_searched = record { keeps = λ x h. h; finds = λ name more v among. absurd (false≢true among) }

  -- one length more
  module _ (before after : List ℕ) (len : ℕ) (more_lengths : (n : ℕ) → has_length after n ≡ (has_length before n || nat_eq len n)) where
    -- a name was looked up before, or has this length
    among : (n : ℕ) → has_length after n ≡ true → (has_length before n ≡ true) ⊎ (n ≡ len)
    among n h = by (has_length before n) (nat_eq len n) refl refl (sym (more_lengths n) ∙ h)
      where
        by : (b c : Bool) → has_length before n ≡ b → nat_eq len n ≡ c → (b || c) ≡ true → (has_length before n ≡ true) ⊎ (n ≡ len)
        by true c p q h = inl p
        by false true p q h = inr (grind arith)
        by false false p q h = absurd (false≢true h)

    -- one that is longer than the text
    pub passed_searched : (mid : List Parsed) → length rest < len
        → IsSearched listed role following found rest old mid before → IsSearched listed role following found rest old mid after
    passed_searched mid long so_far =
        record {
          keeps = so_far.keeps;
          finds = λ name more v has e may there. by name more v e may there (among (length name) has);
        }
      where
        by : (name more : List ℕ) (v : VarId) → rest ≡ name ++ more → may_be following more ≡ true → Contains (noted_under listed name) v
            → (has_length before (length name) ≡ true) ⊎ (length name ≡ len) → Contains mid (with_var role v (past (length name) found))
        by name more v e may there (inl earlier) = so_far.finds name more v earlier e may there
        by name more v e may there (inr at) =
            let all : length rest ≡ length name + length more = ap length e ∙ length-append name more in
            absurd (omega (arith, all, at, long))

    module _ (mid new pushed : List Parsed) (is : new ≡ mid ++ pushed) (are : pushed ≡ map (λ v. with_var role v (past len found)) (noted_under listed (take len rest)))
        (so_far : IsSearched listed role following found rest old mid before) where
      here : (x : Parsed) → Contains (mid ++ pushed) x → Contains new x
      here x h = subst (λ l. Contains l x) (sym is) h

      looked : (name more : List ℕ) (v : VarId) → rest ≡ name ++ more → Contains (noted_under listed name) v → length name ≡ len
          → Contains new (with_var role v (past (length name) found))
      looked name more v e there at =
          let front : take len rest ≡ name = ap (take len) e ∙ take_at name more len at in
          let own = contains_map (λ w. with_var role w (past len found)) (noted_under listed (take len rest)) v (subst (λ l. Contains (noted_under listed l) v) (sym front) there) in
          subst (λ n. Contains new (with_var role v (past n found))) (sym at)
          (here _ (Contains-append_right mid pushed _ (subst (λ l. Contains l (with_var role v (past len found))) (sym are) own)))

      pub more_searched : IsSearched listed role following found rest old new after
      more_searched =
          record {
            keeps = λ x h. here x (Contains-append_left mid pushed x (so_far.keeps x h));
            finds = λ name more v has e may there. by name more v e may there (among (length name) has);
          }
        where
          by : (name more : List ℕ) (v : VarId) → rest ≡ name ++ more → may_be following more ≡ true → Contains (noted_under listed name) v
              → (has_length before (length name) ≡ true) ⊎ (length name ≡ len) → Contains new (with_var role v (past (length name) found))
          by name more v e may there (inl earlier) = here _ (Contains-append_left mid pushed _ (so_far.finds name more v earlier e may there))
          by name more v e may there (inr at) = looked name more v e there at

    -- one that nothing of the parts can follow
    pub same_searched : (mid : List Parsed) → may_be following (drop len rest) ≡ false
        → IsSearched listed role following found rest old mid before → IsSearched listed role following found rest old mid after
    same_searched mid differs so_far =
        record {
          keeps = so_far.keeps;
          finds = λ name more v has e may there. by name more v e may there (among (length name) has);
        }
      where
        by : (name more : List ℕ) (v : VarId) → rest ≡ name ++ more → may_be following more ≡ true → Contains (noted_under listed name) v
            → (has_length before (length name) ≡ true) ⊎ (length name ≡ len) → Contains mid (with_var role v (past (length name) found))
        by name more v e may there (inl earlier) = so_far.finds name more v earlier e may there
        by name more v e may there (inr at) =
            let back : drop len rest ≡ more = ap (drop len) e ∙ drop_at name more len at in
            absurd (false≢true (sym differs ∙ ap (may_be following) back ∙ may))

    pub step_searched : (mid new : List Parsed)
        → new ≡ (if may_be following (drop len rest) then mid ++ map (λ v. with_var role v (past len found)) (noted_under listed (take len rest)) else mid)
        → IsSearched listed role following found rest old mid before → IsSearched listed role following found rest old new after
    step_searched mid new is so_far = by (may_be following (drop len rest)) refl is
      where
        by : (b : Bool) → may_be following (drop len rest) ≡ b
            → new ≡ (if b then mid ++ map (λ v. with_var role v (past len found)) (noted_under listed (take len rest)) else mid)
            → IsSearched listed role following found rest old new after
        by true e h = more_searched mid new (map (λ v. with_var role v (past len found)) (noted_under listed (take len rest))) h refl so_far
        by false e h = subst (λ l. IsSearched listed role following found rest old l after) (sym h) (same_searched mid e so_far)

  -- where all of the names are looked up
  pub all_searched : (new : List Parsed) (lengths : List ℕ) → HaveLengths listed lengths → IsSearched listed role following found rest old new lengths
      → (name more : List ℕ) (v : VarId) → rest ≡ name ++ more → may_be following more ≡ true → Contains (noted_under listed name) v → Contains new (with_var role v (past (length name) found))
  all_searched new lengths have so_far name more v e may there = so_far.finds name more v (have name v there) e may there
