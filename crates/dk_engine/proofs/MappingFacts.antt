-- How bitmaps are made.
use Rattle.std.proofs.Common.{◌≡◌, ◌≢◌, ◌<◌, ◌≤◌, ◌+◌, ◌*◌, ◌^◌, ◌++◌, ◌||◌, ◌∙◌, ◌==◌, ℕ, zero, suc, Bool, true, false, cond, All, List, [], ◌∷◌, Ok, arith, ap, sym, refl, subst, inl, inr, length, get_or, take}
use Rattle.std.specs.Global.{Vec}
use Rattle.std.specs.List.Sorted.{IsBinarySearchResult}
use Rattle.std.specs.Ordering.{nat_cmp}
use Rattle.std.proofs.Math.ListN.{set}
use Rattle.std.proofs.Math.Nat.{pow-le-pow_right}
use Rattle.std.proofs.lemmas.Bool.{cases_lt, cases_Bool, eq-eqb, eqb-true}
use Rattle.std.proofs.lemmas.Cmp.{ranked}
use Rattle.std.proofs.lemmas.List.{get_or-set_other, get_or-set_same, get_or_append_left, get_or_default, get_or_push, length_push}
use Rattle.dk_base.specs.declared.kinds.VarId.{VarId}
use Rattle.dk_presence.specs.Patterns.{has}
use Rattle.dk_presence.specs.declared.held.Held.{Held}
use Rattle.dk_samples.specs.Leaders.{VarsAscend}
use Rattle.dk_engine.specs.Saved.Bitmaps.{AreBegun, AreBitmaps, AreWords, IsBitmap, IsPlaceOf, IsRowOf, block_at, digits}
use Rattle.dk_engine.proofs.BitmapFacts.{digits_below}

none : VarId
none = record { 0 = 0 }

-- ---- lookups
pub place_is : (leaders : List VarId) (v : VarId) (place : ℕ) → place < length leaders → IsBinarySearchResult (λ w. nat_cmp w.0 v.0) leaders (Ok place) → IsPlaceOf leaders v place
place_is leaders v place within found = record { within = within; stands = λ d. ap (λ n. record { 0 = n }) (ranked _ v.0 _ (sym (found d))) }

pub bitmap_of : (held : List Held) (leaders : List VarId) (maps : List (Vec ℕ)) (v : VarId) (place : ℕ) (map : Vec ℕ) (words : List ℕ) → AreBitmaps held leaders maps
    → IsPlaceOf leaders v place → map ≡ get_or maps place map → words ≡ map.items → IsBitmap held v words
bitmap_of held leaders maps v place map words are at is of =
    subst (λ (w : VarId). IsBitmap held w words) (at.stands v)
    (subst (IsBitmap held (get_or leaders place v)) (ap (λ (m : Vec ℕ). m.items) (sym is) ∙ sym of) (are.each place v map at.within))

-- ---- one variable of a pattern
has_here : (vs : List VarId) (i : ℕ) (d v : VarId) → i < length vs → (get_or vs i d).0 ≡ v.0 → has vs v ≡ true
has_here [] i d v l e = absurd (omega (arith, l))
has_here (w ∷ vs) zero d v l e = ap (λ b. b || has vs v) (eq-eqb w.0 v.0 e)
has_here (w ∷ vs) (suc i) d v l e = ap (λ b. (w.0 == v.0) || b) (has_here vs i d v (omega (arith, l)) e) ∙ or_true (w.0 == v.0)
  where
    or_true : (b : Bool) → (b || true) ≡ true
    or_true true = refl
    or_true false = refl

has_not : (vs : List VarId) (v d : VarId) → ((k : ℕ) → k < length vs → (get_or vs k d).0 ≢ v.0) → has vs v ≡ false
has_not [] v d h = refl
has_not (w ∷ vs) v d h = elim (cases_Bool (w.0 == v.0)) [
  | inl e ↦ absurd (h 0 (omega arith) (eqb-true w.0 v.0 e))
  | inr n ↦ ap (λ b. b || has vs v) n ∙ has_not vs v d (λ k l. h (suc k) (omega (arith, l)))
]

-- where all before a place come before a variable and the one at the place doesn't, the variable is there exactly where it stands at the place
pub has_next : (present : List VarId) (v : VarId) (place : ℕ) (b : Bool) → VarsAscend present
    → ((k : ℕ) (d : VarId) → k < place → (get_or present k d).0 < v.0)
    → ((d : VarId) → place < length present → v.0 ≤ (get_or present place d).0)
    → (b ≡ true → (place < length present) × ((d : VarId) → (get_or present place d).0 ≡ v.0))
    → (b ≡ false → place < length present → (d : VarId) → (get_or present place d).0 ≢ v.0)
    → has present v ≡ b
has_next present v place true up before next stands not = let s = stands refl in has_here present place none v s.0 (s.1 none)
has_next present v place false up before next stands not = has_not present v none (λ k l e. elim (cases_lt k place) as (λ _. ⊥) [
  | inl below ↦ let lt = before k none below in absurd (omega (arith, lt, e))
  | inr high ↦ elim (cases_lt place k) as (λ _. ⊥) [
    | inl above ↦
        let low = next none (omega (arith, above, l)) in
        let rise = up place k none above l in
        absurd (omega (arith, low, rise, e))
    | inr low ↦
        let is : k ≡ place = omega (arith, high, low) in
        not refl (omega (arith, l, is)) none (ap (λ n. (get_or present n none).0) (sym is) ∙ e)
  ]
])

-- ---- one leader more
pub passed_all : (leaders present : List VarId) (i place next : ℕ) (v : VarId) → i < length leaders → v ≡ get_or leaders i v
    → ((p k : ℕ) (d e : VarId) → p < place → i ≤ k → k < length leaders → (get_or present p d).0 < (get_or leaders k e).0)
    → ((p : ℕ) (d : VarId) → place ≤ p → p < next → (get_or present p d).0 < v.0)
    → (p : ℕ) (d : VarId) → p < next → (get_or present p d).0 < v.0
passed_all leaders present i place next v within is before passed = λ p d l. elim (cases_lt p place) as (λ _. (get_or present p d).0 < v.0) [
  | inl below ↦ subst (λ (w : VarId). (get_or present p d).0 < w.0) (sym is) (before p i d v below (omega arith) within)
  | inr up ↦ passed p d up l
]

pub before_more : (leaders present : List VarId) (i place next : ℕ) (v : VarId) → VarsAscend leaders → i < length leaders → v ≡ get_or leaders i v
    → ((p k : ℕ) (d e : VarId) → p < place → i ≤ k → k < length leaders → (get_or present p d).0 < (get_or leaders k e).0)
    → ((p : ℕ) (d : VarId) → place ≤ p → p < next → (get_or present p d).0 < v.0)
    → (p k : ℕ) (d e : VarId) → p < next → i + 1 ≤ k → k < length leaders → (get_or present p d).0 < (get_or leaders k e).0
before_more leaders present i place next v up within is before passed = λ p k d e l least most.
    let lt = passed_all leaders present i place next v within is before passed p d l in
    let rise = up i k e (omega (arith, least)) most in
    let same : v.0 ≡ (get_or leaders i e).0 = ap (λ (w : VarId). w.0) (is ∙ get_or_default leaders i v e within) in
    omega (arith, lt, rise, same)

pub row_more : (old row : List ℕ) (leaders present : List VarId) (i w : ℕ) (v : VarId) (b : Bool) → length row ≡ length leaders → i < length leaders → v ≡ get_or leaders i v
    → has present v ≡ b → w ≡ get_or row i 0 * 2 + cond b 1 0
    → ((k : ℕ) (d : VarId) → k < i → get_or row k 0 ≡ get_or old k 0 * 2 + cond (has present (get_or leaders k d)) 1 0)
    → ((k : ℕ) → i ≤ k → get_or row k 0 ≡ get_or old k 0)
    → (k : ℕ) (d : VarId) → k < i + 1 → get_or (set row i w) k 0 ≡ get_or old k 0 * 2 + cond (has present (get_or leaders k d)) 1 0
row_more old row leaders present i w v b long within is has_it word done rest = λ k d l. elim (cases_lt k i) as (λ _. get_or (set row i w) k 0 ≡ get_or old k 0 * 2 + cond (has present (get_or leaders k d)) 1 0) [
  | inl below ↦ get_or-set_other row i k w 0 (λ e. absurd (omega (arith, below, e))) ∙ done k d below
  | inr up ↦
      let same : i ≡ k = omega (arith, l, up) in
      let here : get_or (set row i w) i 0 ≡ w = get_or-set_same row i w 0 (omega (arith, within, long)) in
      let at : v ≡ get_or leaders i d = is ∙ get_or_default leaders i v d within in
      let digit : cond b 1 0 ≡ cond (has present (get_or leaders i d)) 1 0 = ap (λ c. cond c 1 0) (sym has_it ∙ ap (has present) at) in
      subst (λ n. get_or (set row i w) n 0 ≡ get_or old n 0 * 2 + cond (has present (get_or leaders n d)) 1 0) same
      (here ∙ (word ∙ (ap (λ n. n * 2 + cond b 1 0) (rest i (omega arith)) ∙ ap (λ n. get_or old i 0 * 2 + n) digit)))
]

pub rest_more : (old row : List ℕ) (i w : ℕ) → ((k : ℕ) → i ≤ k → get_or row k 0 ≡ get_or old k 0) → (k : ℕ) → i + 1 ≤ k → get_or (set row i w) k 0 ≡ get_or old k 0
rest_more old row i w rest = λ k l. get_or-set_other row i k w 0 (λ e. absurd (omega (arith, l, e))) ∙ rest k (omega (arith, l))

-- ---- room for one pattern more
pub row_room : (leaders : List VarId) (block : List Held) (row : List ℕ) (i : ℕ) (d : Held) → IsRowOf leaders (take i block) row → i < length block → length block ≤ 64
    → All (λ n. n < 2 ^ 63) row
row_room leaders block row i d is within few = λ k e l.
    let at = get_or_default row k e 0 l in
    let word = is.each k none (omega (arith, l, is.long)) in
    let below = digits_below (λ h. has h.leaders (get_or leaders k none)) block d i (omega (arith, within)) in
    let le : i ≤ 63 = omega (arith, within, few) in
    let most : 2 ^ i ≤ 2 ^ 63 = pow-le-pow_right (omega arith) le in
    omega (arith, at, word, below, most)

-- ---- one block more
words_more : (held : List Held) (v : VarId) (j word : ℕ) (old new : List ℕ) → AreWords held v j old → word ≡ digits (λ h. has h.leaders v) (block_at held j) → new ≡ old ++ word ∷ [] → AreWords held v (j + 1) new
words_more held v j word old new are is pushed = record {
  long = let l = ap length pushed in omega (arith, l, length_push old word, are.long);
  each = λ i l. elim (cases_lt i j) as (λ _. get_or new i 0 ≡ digits (λ h. has h.leaders v) (block_at held i)) [
    | inl below ↦ ap (λ xs. get_or xs i 0) pushed ∙ (get_or_append_left old (word ∷ []) 0 i (omega (arith, below, are.long)) ∙ are.each i below)
    | inr up ↦
        let same : j ≡ i = omega (arith, l, up) in
        ap (λ xs. get_or xs i 0) pushed ∙ (get_or_push old word 0 i (are.long ∙ same) ∙ (is ∙ ap (λ n. digits (λ h. has h.leaders v) (block_at held n)) same))
  ];
}

pub begun_more : (held : List Held) (leaders : List VarId) (j : ℕ) (block : List Held) (maps new : List (Vec ℕ)) (row : List ℕ) → AreBegun held leaders j maps → block ≡ block_at held j
    → IsRowOf leaders block row → length new ≡ length maps
    → ((k : ℕ) (d : Vec ℕ) → k < length row → (get_or new k d).items ≡ (get_or maps k d).items ++ get_or row k 0 ∷ [])
    → AreBegun held leaders (j + 1) new
begun_more held leaders j block maps new row begun is of long each = record {
  long = long ∙ begun.long;
  each = λ k d e l.
      let word = of.each k d l ∙ ap (digits (λ h. has h.leaders (get_or leaders k d))) is in
      words_more held (get_or leaders k d) j (get_or row k 0) (get_or maps k e).items (get_or new k e).items (begun.each k d e l) word (each k e (omega (arith, l, of.long)));
}
