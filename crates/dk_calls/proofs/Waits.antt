-- The waiting entries, as the stack and the table keep them.
use Rattle.std.proofs.Common.{◌≡◌, ◌∙◌, ◌&&◌, ◌||◌, ◌==◌, ℕ, ℤ, Bool, true, false, List, [], ◌∷◌, drop, filter, find, is_none, is_some, map, nat_eq, Option, Some, None, option_map, refl, sym, ap, slice_get, subst, if◌then◌else◌}
use Rattle.std.proofs.lemmas.Bool.{eqb-true}
use Rattle.std.proofs.lemmas.Bool.Decides.{Decides-int_eq}
use Rattle.std.specs.List.{list_any}
use Rattle.std.specs.Ordering.{int_eq}
use Rattle.dk_base.specs.declared.values.Value.{Value}
use Rattle.dk_calls.specs.Nonces.{same_key}
use Rattle.dk_calls.specs.Stacks.{Plain, below_first, is_at}
use Rattle.dk_calls.specs.Standing.{plain_entry}
use Rattle.dk_calls.specs.Waiting.{Entry, is_of, is_plain, same_nonce, taken_by, without_first, without_plain}

abbrev pub entry : ℕ → Option ℤ → List Value → Entry
entry point n values = record { point = point; nonce = n; values = values }

both : (a b : Bool) → (a && b) ≡ true → (a ≡ true) × (b ≡ true)
both true true e = (refl, refl)
both true false e = absurd (cc e)
both false b e = absurd (cc e)

pub and_false : (b : Bool) → (b && false) ≡ false
and_false true = refl
and_false false = refl

-- an exit without a nonce finds its entry on the stack
pub taken_plain : (e : ℕ) (ws : List Entry)
    → option_map (λ (w : Plain). w.values) (find (is_at e) (map plain_entry (filter is_plain ws))) ≡ option_map (λ (w : Entry). w.values) (taken_by e None ws)
taken_plain e [] = refl
taken_plain e (w ∷ ws) = go w.point w.nonce w.values (taken_plain e ws)
  where
    go : (p : ℕ) (n : Option ℤ) (v : List Value)
        → option_map (λ (w : Plain). w.values) (find (is_at e) (map plain_entry (filter is_plain ws))) ≡ option_map (λ (w : Entry). w.values) (taken_by e None ws)
        → option_map (λ (w : Plain). w.values) (find (is_at e) (map plain_entry (filter is_plain (entry p n v ∷ ws)))) ≡ option_map (λ (w : Entry). w.values) (taken_by e None (entry p n v ∷ ws))
    go p None v h = by (p == e)
      where
        by : (b : Bool) → option_map (λ (w : Plain). w.values) (if b then Some (plain_entry (entry p None v)) else find (is_at e) (map plain_entry (filter is_plain ws)))
            ≡ option_map (λ (w : Entry). w.values) (if b && true then Some (entry p None v) else find (is_of e None) ws)
        by true = refl
        by false = h
    go p (Some m) v h = by (p == e)
      where
        by : (b : Bool) → option_map (λ (w : Plain). w.values) (find (is_at e) (map plain_entry (filter is_plain ws)))
            ≡ option_map (λ (w : Entry). w.values) (if b && false then Some (entry p (Some m) v) else find (is_of e None) ws)
        by true = h
        by false = h

-- and leaves what lies below it
pub left_plain : (e : ℕ) (ws : List Entry) → map plain_entry (filter is_plain (without_plain e ws)) ≡ below_first (is_at e) (map plain_entry (filter is_plain ws))
left_plain e [] = refl
left_plain e (w ∷ ws) = go w.point w.nonce w.values (left_plain e ws)
  where
    go : (p : ℕ) (n : Option ℤ) (v : List Value)
        → map plain_entry (filter is_plain (without_plain e ws)) ≡ below_first (is_at e) (map plain_entry (filter is_plain ws))
        → map plain_entry (filter is_plain (without_plain e (entry p n v ∷ ws))) ≡ below_first (is_at e) (map plain_entry (filter is_plain (entry p n v ∷ ws)))
    go p None v h = by (p == e)
      where
        by : (b : Bool) → map plain_entry (filter is_plain (if b && true then ws else without_plain e ws))
            ≡ (if b then map plain_entry (filter is_plain ws) else below_first (is_at e) (map plain_entry (filter is_plain ws)))
        by true = refl
        by false = h
    go p (Some m) v h = by (p == e)
      where
        by : (b : Bool) → map plain_entry (filter is_plain (if b && false then ws else entry p (Some m) v ∷ without_plain e ws)) ≡ below_first (is_at e) (map plain_entry (filter is_plain ws))
        by true = h
        by false = h

-- an exit with a nonce finds its entry first among its own
pub taken_nonce : (e : ℕ) (n : ℤ) (ws : List Entry)
    → slice_get (map (λ (w : Entry). w.values) (filter (is_of e (Some n)) ws)) 0 ≡ option_map (λ (w : Entry). w.values) (taken_by e (Some n) ws)
taken_nonce e n [] = refl
taken_nonce e n (w ∷ ws) = by (is_of e (Some n) w) (taken_nonce e n ws)
  where
    by : (b : Bool) → slice_get (map (λ (w : Entry). w.values) (filter (is_of e (Some n)) ws)) 0 ≡ option_map (λ (w : Entry). w.values) (taken_by e (Some n) ws)
        → slice_get (map (λ (w : Entry). w.values) (if b then w ∷ filter (is_of e (Some n)) ws else filter (is_of e (Some n)) ws)) 0
        ≡ option_map (λ (w : Entry). w.values) (if b then Some w else find (is_of e (Some n)) ws)
    by true h = refl
    by false h = h

-- what is taken is an entry of the point
pub taken_point : (e : ℕ) (n : Option ℤ) (ws : List Entry) (w : Entry) → taken_by e n ws ≡ Some w → w.point ≡ e
taken_point e n [] w h = absurd (cc h)
taken_point e n (v ∷ ws) w h = by (is_of e n v) refl h (taken_point e n ws w)
  where
    by : (b : Bool) → is_of e n v ≡ b → (if b then Some v else find (is_of e n) ws) ≡ Some w → (taken_by e n ws ≡ Some w → w.point ≡ e) → w.point ≡ e
    by true own h rest = let same : v ≡ w = cc h in ap (λ (u : Entry). u.point) (sym same) ∙ eqb-true v.point e (both (v.point == e) (same_nonce v.nonce n) own).0
    by false own h rest = rest h

pub any_taken : (t : Entry → Bool) (ws : List Entry) → is_some (find t ws) ≡ true → list_any t ws ≡ true
any_taken t [] h = cc h
any_taken t (w ∷ ws) h = by (t w) h (any_taken t ws)
  where
    by : (b : Bool) → is_some (if b then Some w else find t ws) ≡ true → (is_some (find t ws) ≡ true → list_any t ws ≡ true) → (b || list_any t ws) ≡ true
    by true h rest = refl
    by false h rest = rest h

-- without the first that passes: of those that pass, one less
pub own_left : (t : Entry → Bool) (ws : List Entry) → filter t (without_first t ws) ≡ drop 1 (filter t ws)
own_left t [] = refl
own_left t (w ∷ ws) = by (t w) refl (own_left t ws)
  where
    by : (b : Bool) → t w ≡ b → filter t (without_first t ws) ≡ drop 1 (filter t ws)
        → filter t (if b then ws else w ∷ without_first t ws) ≡ drop 1 (if b then w ∷ filter t ws else filter t ws)
    by true e h = refl
    by false e h = ap (λ (c : Bool). if c then w ∷ filter t (without_first t ws) else filter t (without_first t ws)) e ∙ h

-- of those that pass another test, as many
pub other_left : (t u : Entry → Bool) → ((w : Entry) → t w ≡ true → u w ≡ false) → (ws : List Entry) → filter u (without_first t ws) ≡ filter u ws
other_left t u apart [] = refl
other_left t u apart (w ∷ ws) = by (t w) refl (other_left t u apart ws)
  where
    by : (b : Bool) → t w ≡ b → filter u (without_first t ws) ≡ filter u ws
        → filter u (if b then ws else w ∷ without_first t ws) ≡ (if u w then w ∷ filter u ws else filter u ws)
    by true e h = sym (ap (λ (c : Bool). if c then w ∷ filter u ws else filter u ws) (apart w e))
    by false e h = ap (λ (r : List Entry). if u w then w ∷ r else r) h

plain_of_none : (n : Option ℤ) → same_nonce n None ≡ true → is_none n ≡ true
plain_of_none None e = refl
plain_of_none (Some m) e = cc e

-- those with a nonce stay where plain ones go
pub plain_other : (e : ℕ) (u : Entry → Bool) → ((w : Entry) → is_plain w ≡ true → u w ≡ false) → (ws : List Entry) → filter u (without_plain e ws) ≡ filter u ws
plain_other e u apart [] = refl
plain_other e u apart (w ∷ ws) = by (is_of e None w) refl (is_plain w) refl (plain_other e u apart ws)
  where
    by : (a : Bool) → is_of e None w ≡ a → (b : Bool) → is_plain w ≡ b → filter u (without_plain e ws) ≡ filter u ws
        → filter u (if a then ws else if b then without_plain e ws else w ∷ without_plain e ws) ≡ (if u w then w ∷ filter u ws else filter u ws)
    by true own b plain h =
        sym (ap (λ (c : Bool). if c then w ∷ filter u ws else filter u ws) (apart w (plain_of_none w.nonce (both (w.point == e) (same_nonce w.nonce None) own).1)))
    by false own true plain h = h ∙ sym (ap (λ (c : Bool). if c then w ∷ filter u ws else filter u ws) (apart w plain))
    by false own false plain h = ap (λ (r : List Entry). if u w then w ∷ r else r) h

nonced : (k : Option ℤ) (n : ℤ) → same_nonce k (Some n) ≡ true → is_none k ≡ false
nonced None n e = cc e
nonced (Some m) n e = refl

pub nonced_is_not_plain : (e : ℕ) (n : ℤ) (w : Entry) → is_of e (Some n) w ≡ true → is_plain w ≡ false
nonced_is_not_plain e n w own = nonced w.nonce n (both (w.point == e) (same_nonce w.nonce (Some n)) own).1

pub plain_is_not_nonced : (q : ℕ) (m : ℤ) (w : Entry) → is_plain w ≡ true → is_of q (Some m) w ≡ false
plain_is_not_nonced q m w plain = by w.nonce plain
  where
    by : (k : Option ℤ) → is_none k ≡ true → (w.point == q && same_nonce k (Some m)) ≡ false
    by None e = and_false (w.point == q)
    by (Some j) e = absurd (cc e)

pub other_key : (e q : ℕ) (n m : ℤ) → same_key (e, n) (q, m) ≡ false → (w : Entry) → is_of e (Some n) w ≡ true → is_of q (Some m) w ≡ false
other_key e q n m apart w own =
    let parts = both (w.point == e) (same_nonce w.nonce (Some n)) own in
    by w.nonce parts.1 (eqb-true w.point e parts.0)
  where
    by : (k : Option ℤ) → same_nonce k (Some n) ≡ true → w.point ≡ e → (w.point == q && same_nonce k (Some m)) ≡ false
    by None h point = absurd (cc h)
    by (Some j) h point = let number : j ≡ n = (Decides-int_eq j n).0 h in
        ap (λ (p : ℕ). p == q && int_eq j m) point ∙ ap (λ (i : ℤ). e == q && int_eq i m) number ∙ apart

-- the entries of a point and a nonce, without the latest of a point and a nonce
pub left_nonce : (e q : ℕ) (n m : ℤ) (ws : List Entry) → filter (is_of q (Some m)) (without_first (is_of e (Some n)) ws)
    ≡ (if same_key (e, n) (q, m) then drop 1 (filter (is_of q (Some m)) ws) else filter (is_of q (Some m)) ws)
left_nonce e q n m ws = by (same_key (e, n) (q, m)) refl
  where
    by : (b : Bool) → same_key (e, n) (q, m) ≡ b → filter (is_of q (Some m)) (without_first (is_of e (Some n)) ws)
        ≡ (if b then drop 1 (filter (is_of q (Some m)) ws) else filter (is_of q (Some m)) ws)
    by true h =
        let parts = both (nat_eq e q) (int_eq n m) h in
        let points : q ≡ e = sym (eqb-true e q parts.0) in
        let numbers : m ≡ n = sym ((Decides-int_eq n m).0 parts.1) in
        let P : ℕ → ℤ → Type 0 = λ p k. filter (is_of p (Some k)) (without_first (is_of e (Some n)) ws) ≡ drop 1 (filter (is_of p (Some k)) ws) in
        let Q : ℕ → Type 0 = λ p. P p m in
        subst Q (sym points) (subst (P e) (sym numbers) (own_left (is_of e (Some n)) ws))
    by false h = other_left (is_of e (Some n)) (is_of q (Some m)) (other_key e q n m h) ws
