-- Edges by number, and edges that go to the rows of their children or of their parents.
use Rattle.std.proofs.Common.{◌≡◌, ◌∙◌, ℕ, zero, suc, ◌+◌, ◌<◌, ◌==◌, Bool, true, false, cond, nat_lt, List, [], ◌∷◌, ◌++◌, length, filter, insert, not, set, drop, get_or, if◌then◌else◌, ◌≢◌, true≢false, append_assoc, append-nil, refl, ap, subst, sym, arith}
use Rattle.std.specs.List.{position_or_len}
use Rattle.std.proofs.lemmas.List.{drop_more, length-set}
use Rattle.dk_graph.specs.Rows.{row, by_number, inserted, spread, ChildrenBelow}
use Rattle.dk_graph.specs.Raising.{ParentsBelow}
use Rattle.dk_graph.specs.declared.nodes.Edge.{Edge}
use Rattle.dk_graph.proofs.Members.{Has, has-first, has-later}
use Rattle.dk_graph.proofs.Heights.{eqb_true, eqb_same}

-- ---- one row

-- each of these edges has a greater number
abbrev pub AllAbove : ℕ → List Edge → Type 0
AllAbove n es = (e : Edge) → Has es e → n < e.number

lt-yes : (m n : ℕ) → m < n → nat_lt m n ≡ true
lt-yes m n h = grind (arith, h)

lt-no : (m n : ℕ) → n < m → nat_lt m n ≡ false
lt-no m n h = grind (arith, h)

pub by_number-first : (e : Edge) (es : List Edge) → AllAbove e.number es → by_number e es ≡ e ∷ es
by_number-first e [] above = refl
by_number-first e (f ∷ fs) above = by (nat_lt e.number f.number) (lt-yes e.number f.number (above f (has-first f fs)))
  where
    by : (b : Bool) → b ≡ true → insert (f ∷ fs) (cond (not b) (1 + position_or_len (λ g. nat_lt e.number g.number) fs) 0) e ≡ e ∷ f ∷ fs
    by true is = refl
    by false is = absurd (true≢false (sym is))

insert-later : (f e : Edge) (fs : List Edge) (n : ℕ) → insert (f ∷ fs) (1 + n) e ≡ f ∷ insert fs n e
insert-later f e fs n = ap (λ m. insert (f ∷ fs) m e) (one-plus n)
  where
    one-plus : (n : ℕ) → 1 + n ≡ suc n
    one-plus n = omega arith

by_number-past : (e w : Edge) (es : List Edge) → e.number < w.number → by_number w (e ∷ es) ≡ e ∷ by_number w es
by_number-past e w es h = by (nat_lt w.number e.number) (lt-no w.number e.number h)
  where
    by : (b : Bool) → b ≡ false → insert (e ∷ es) (cond (not b) (1 + position_or_len (λ g. nat_lt w.number g.number) es) 0) w ≡ e ∷ by_number w es
    by true is = absurd (true≢false is)
    by false is = insert-later e w es (position_or_len (λ g. nat_lt w.number g.number) es)

-- edges that go to a row one after another
abbrev pub put_in : List Edge → List Edge → List Edge
put_in es [] = es
put_in es (w ∷ ws) = put_in (by_number w es) ws

put_in-past : (e : Edge) (es ws : List Edge) → AllAbove e.number ws → put_in (e ∷ es) ws ≡ e ∷ put_in es ws
put_in-past e es [] above = refl
put_in-past e es (w ∷ ws) above =
    ap (λ xs. put_in xs ws) (by_number-past e w es (above w (has-first w ws)))
    ∙ put_in-past e (by_number w es) ws (λ f there. above f (has-later w ws f there))

-- an edge of the row comes before those that go in
pub put_in-found : (c : Bool) (e : Edge) (old new more : List Edge) → (c ≡ true → AllAbove e.number new) → put_in old new ≡ more
    → put_in (cond c (e ∷ old) old) new ≡ cond c (e ∷ more) more
put_in-found true e old new more above is = put_in-past e old new (above refl) ∙ ap (λ xs. e ∷ xs) is
put_in-found false e old new more above is = is

-- an edge that goes in comes before those of the row
pub put_in-come : (c : Bool) (e : Edge) (old new more : List Edge) → (c ≡ true → AllAbove e.number old) → (c ≡ true → AllAbove e.number new) → put_in old new ≡ more
    → put_in old (cond c (e ∷ new) new) ≡ cond c (e ∷ more) more
put_in-come true e old new more own above is = ap (λ xs. put_in xs new) (by_number-first e old (own refl)) ∙ put_in-past e old new (above refl) ∙ ap (λ xs. e ∷ xs) is
put_in-come false e old new more own above is = is

-- ---- all rows

pub row-at : (rows : List (List Edge)) (q : ℕ) (d : List Edge) → q < length rows → get_or rows q d ≡ row rows q
row-at [] q d within = absurd (omega (arith, within))
row-at (es ∷ rest) zero d within = refl
row-at (es ∷ rest) (suc q) d within = row-at rest q d (omega (arith, within))

row-set-same : (rows : List (List Edge)) (q : ℕ) (es : List Edge) → q < length rows → row (set rows q es) q ≡ es
row-set-same [] q es h = absurd (omega (arith, h))
row-set-same (r ∷ rows) zero es h = refl
row-set-same (r ∷ rows) (suc q) es h = row-set-same rows q es (omega (arith, h))

row-set-other : (rows : List (List Edge)) (q p : ℕ) (es : List Edge) → (q ≢ p) → row (set rows q es) p ≡ row rows p
row-set-other [] q p es h = refl
row-set-other (r ∷ rows) zero zero es h = absurd (h refl)
row-set-other (r ∷ rows) zero (suc p) es h = refl
row-set-other (r ∷ rows) (suc q) zero es h = refl
row-set-other (r ∷ rows) (suc q) (suc p) es h = row-set-other rows q p es (λ s. h (ap suc s))

-- what a change of the row at q by f makes of the row at p
row-changed : (f : List Edge → List Edge) (rows : List (List Edge)) (q p : ℕ) → q < length rows → row (set rows q (f (row rows q))) p ≡ (if q == p then f (row rows p) else row rows p)
row-changed f rows q p below = by (q == p) refl
  where
    by : (b : Bool) → q == p ≡ b → row (set rows q (f (row rows q))) p ≡ (if b then f (row rows p) else row rows p)
    by true same = subst (λ r. row (set rows q (f (row rows q))) r ≡ f (row rows r)) (eqb_true q p same) (row-set-same rows q (f (row rows q)) below)
    by false other = row-set-other rows q p (f (row rows q)) (λ s. true≢false (sym (eqb_same q) ∙ ap (λ k. q == k) s ∙ other))

pub inserted-row : (es : List Edge) (rows : List (List Edge)) (p : ℕ) → ChildrenBelow (length rows) es → row (inserted rows es) p ≡ put_in (row rows p) (filter (λ e. e.child.0 == p) es)
inserted-row [] rows p below = refl
inserted-row (e ∷ es) rows p below =
    inserted-row es (set rows e.child.0 (by_number e (row rows e.child.0))) p
    (λ k f at. subst (λ n. f.child.0 < n) (sym (length-set rows e.child.0 (by_number e (row rows e.child.0)))) (below (suc k) f at))
    ∙ ap (λ xs. put_in xs (filter (λ f. f.child.0 == p) es)) (row-changed (by_number e) rows e.child.0 p (below zero e refl))
    ∙ by (e.child.0 == p)
  where
    by : (b : Bool) → put_in (if b then by_number e (row rows p) else row rows p) (filter (λ f. f.child.0 == p) es)
        ≡ put_in (row rows p) (if b then e ∷ filter (λ f. f.child.0 == p) es else filter (λ f. f.child.0 == p) es)
    by true = refl
    by false = refl

pub length-inserted : (rows : List (List Edge)) (es : List Edge) → length (inserted rows es) ≡ length rows
length-inserted rows [] = refl
length-inserted rows (e ∷ es) =
    length-inserted (set rows e.child.0 (by_number e (row rows e.child.0))) es ∙ length-set rows e.child.0 (by_number e (row rows e.child.0))

pub spread-row : (es : List Edge) (rows : List (List Edge)) (p : ℕ) → ParentsBelow (length rows) es → row (spread rows es) p ≡ row rows p ++ filter (λ e. e.parent.0 == p) es
spread-row [] rows p below = sym (append-nil (row rows p))
spread-row (e ∷ es) rows p below =
    spread-row es (set rows e.parent.0 (row rows e.parent.0 ++ e ∷ [])) p
    (λ k f at. subst (λ n. f.parent.0 < n) (sym (length-set rows e.parent.0 (row rows e.parent.0 ++ e ∷ []))) (below (suc k) f at))
    ∙ ap (λ xs. xs ++ filter (λ f. f.parent.0 == p) es) (row-changed (λ xs. xs ++ e ∷ []) rows e.parent.0 p (below zero e refl))
    ∙ by (e.parent.0 == p)
  where
    by : (b : Bool) → (if b then row rows p ++ e ∷ [] else row rows p) ++ filter (λ f. f.parent.0 == p) es
        ≡ row rows p ++ (if b then e ∷ filter (λ f. f.parent.0 == p) es else filter (λ f. f.parent.0 == p) es)
    by true = append_assoc (row rows p) (e ∷ []) (filter (λ f. f.parent.0 == p) es)
    by false = refl

pub length-spread : (rows : List (List Edge)) (es : List Edge) → length (spread rows es) ≡ length rows
length-spread rows [] = refl
length-spread rows (e ∷ es) = length-spread (set rows e.parent.0 (row rows e.parent.0 ++ e ∷ [])) es ∙ length-set rows e.parent.0 (row rows e.parent.0 ++ e ∷ [])

-- ---- one edge after another

pub spread-next : (rows : List (List Edge)) (es : List Edge) (i : ℕ) (d : Edge) (old new : List Edge) → i < length es → (get_or es i d).parent.0 < length rows
    → new ≡ get_or rows (get_or es i d).parent.0 old ++ get_or es i d ∷ []
    → spread (set rows (get_or es i d).parent.0 new) (drop (i + 1) es) ≡ spread rows (drop i es)
spread-next rows es i d old new within below is =
    let e = get_or es i d in
    let here : new ≡ row rows e.parent.0 ++ e ∷ [] = is ∙ ap (λ xs. xs ++ e ∷ []) (row-at rows e.parent.0 old below) in
    ap (λ xs. spread (set rows e.parent.0 xs) (drop (i + 1) es)) here ∙ sym (ap (spread rows) (drop_more es i d within))

pub inserted-next : (rows : List (List Edge)) (es : List Edge) (i : ℕ) (d : Edge) (old new : List Edge) → i < length es → (get_or es i d).child.0 < length rows
    → new ≡ by_number (get_or es i d) (get_or rows (get_or es i d).child.0 old)
    → inserted (set rows (get_or es i d).child.0 new) (drop (i + 1) es) ≡ inserted rows (drop i es)
inserted-next rows es i d old new within below is =
    let e = get_or es i d in
    let here : new ≡ by_number e (row rows e.child.0) = is ∙ ap (by_number e) (row-at rows e.child.0 old below) in
    ap (λ xs. inserted (set rows e.child.0 xs) (drop (i + 1) es)) here ∙ sym (ap (inserted rows) (drop_more es i d within))

-- ---- one row more

pub row-push-old : (rows : List (List Edge)) (es : List Edge) (p : ℕ) → (p ≢ length rows) → row (rows ++ es ∷ []) p ≡ row rows p
row-push-old [] es zero h = absurd (h refl)
row-push-old [] es (suc p) h = refl
row-push-old (r ∷ rows) es zero h = refl
row-push-old (r ∷ rows) es (suc p) h = row-push-old rows es p (λ s. h (ap suc s))

pub row-push-new : (rows : List (List Edge)) (es : List Edge) → row (rows ++ es ∷ []) (length rows) ≡ es
row-push-new [] es = refl
row-push-new (r ∷ rows) es = row-push-new rows es
