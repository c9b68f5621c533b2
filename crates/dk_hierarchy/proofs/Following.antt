-- What a function needs that follows the ways of a level.
use Rattle.std.specs.Prelude.{◌≡◌, ◌==◌, ◌<◌, ◌+◌, ◌++◌, ℕ, All, Contains, List, [], ◌∷◌, flat_map, fold, length, refl, slice_index, take, Option}
use Rattle.std.proofs.Common.{◌∙◌, ap, get_or, subst, sym}
use Rattle.std.proofs.lemmas.List.{append-nil, append_assoc, take_more}
use Rattle.std.proofs.lemmas.List.Concat.{flat_map-append}
use Rattle.std.proofs.lemmas.List.Elements.{All-append, All-contains_itself, All-cons, All-filter, All-head, All-nil, filter_passes}
use Rattle.dk_graph.specs.Graphs.{AreRanks, ParentsAreDeeper, edges, edges_into}
use Rattle.dk_graph.specs.declared.nodes.Edge.{Edge}
use Rattle.dk_graph.specs.declared.nodes.Node.{Node}
use Rattle.dk_graph.proofs.Heights.{eqb_true}
use Rattle.dk_points.proofs.EndsOfEdges.{edges-into}
use Rattle.dk_points.proofs.Nodes.{length-nodes}
use Rattle.dk_points.specs.Links.{nodes}
use Rattle.dk_points.specs.Table.{Point}
use Rattle.dk_hierarchy.proofs.Descending.{IsInto, begun, by_any, more_paths, others_are, way_done, way_is}
use Rattle.dk_hierarchy.proofs.MoreWays.{IsLevel, all_parts, all_with_way_at, below_with_way, each_added, each_holds, levels_with_way, through_append}
use Rattle.dk_hierarchy.proofs.Shortening.{on_added, on_is_way, on_lower}
use Rattle.dk_hierarchy.proofs.Telling.{same_append, same_as, same_inner, same_refl, same_trans}
use Rattle.dk_hierarchy.specs.Descent.{AreBelow, AreLevels, IsWayDown, first_way, ways_in}
use Rattle.dk_hierarchy.specs.Samples.{OwnSamples, all_vars_of, samples_of}
use Rattle.dk_hierarchy.specs.Shortcuts.{IsDescentBy, LeadDown, ShortcutsHold, way_on, with_ranked, with_ways_on}
use Rattle.dk_hierarchy.specs.Ways.{SamplesTellTheSame, samples_through, samples_through_all, way_below}
use Rattle.dk_hierarchy.specs.declared.way.Way.{Way}

-- one way more for an edge, and for each of some edges
abbrev pub with_edge : List Point → List ℕ → List (Option Way) → Way → List (ℕ × List Way) → Edge → List (ℕ × List Way)
with_edge ps ranks shortcuts way levels e = with_ranked ranks levels (way_on ps shortcuts way e)

abbrev pub with_each : List Point → List ℕ → List (Option Way) → Way → List (ℕ × List Way) → List Edge → List (ℕ × List Way)
with_each ps ranks shortcuts way levels es = fold (with_edge ps ranks shortcuts way) levels es

-- edges into a point are between points of the table
pub into_all : (ps : List Point) (p : ℕ) → All (λ (e : Edge). (e.child.0 < length ps) × (e.parent.0 ≡ p)) (edges_into (nodes ps) p)
into_all ps p = edges-into (nodes ps) (length ps) p (length-nodes ps)

-- a fold that goes one item further
fold_more : {A B : Type 0} (f : A → B → A) (a : A) (xs : List B) (x : B) → fold f a (xs ++ x ∷ []) ≡ f (fold f a xs) x
fold_more f a [] x = refl
fold_more f a (y ∷ xs) x = fold_more f (f a y) xs x

pub one_edge_more : (ps : List Point) (ranks : List ℕ) (shortcuts : List (Option Way)) (way : Way) (levels : List (ℕ × List Way)) (es : List Edge) (i : ℕ) (d : Edge) → i < length es
    → with_edge ps ranks shortcuts way (with_each ps ranks shortcuts way levels (take i es)) (get_or es i d) ≡ with_each ps ranks shortcuts way levels (take (i + 1) es)
one_edge_more ps ranks shortcuts way levels es i d within =
    sym (ap (with_each ps ranks shortcuts way levels) (take_more es i d within) ∙ fold_more (with_edge ps ranks shortcuts way) levels (take i es) (get_or es i d))

-- ---- ranks down an edge
-- an edge into a point of a rank, from one of a lower rank
abbrev pub IsFromLower : List ℕ → ℕ → Edge → Type 0
IsFromLower ranks rank e = slice_index ranks e.child.0 < rank

pub into_from_lower : (ns : List Node) (ranks : List ℕ) → AreRanks ns ranks → (q : ℕ) → All (IsFromLower ranks (slice_index ranks q)) (edges_into ns q)
unfolding edges_into
into_from_lower ns ranks are q k d lt =
    let here : Edge = get_or (edges_into ns q) k d in
    let same : here.parent.0 ≡ q = eqb_true here.parent.0 q (filter_passes (λ (e : Edge). e.parent.0 == q) (edges ns) k d lt) in
    let climb = are.climb here (All-filter (λ (e : Edge). e.parent.0 == q) (Contains (edges ns)) (edges ns) (All-contains_itself (edges ns)) k d lt) in
    subst (λ p. slice_index ranks here.child.0 < slice_index ranks p) same climb

-- ---- one way of a level
module _ (ps : List Point) (deep : ParentsAreDeeper (nodes ps)) (ranks : List ℕ) (are : AreRanks (nodes ps) ranks) (p : ℕ) (shortcuts : List (Option Way)) (down : LeadDown ps shortcuts)
    (ways : List Way) (levels : List (ℕ × List Way)) (old level : List Way) (way : Way) (popped : old ≡ level ++ way ∷ [])
    (is : IsDescentBy ps shortcuts p ways (ways_in levels ++ old)) where
  abbrev es : List Edge
  es = edges_into (nodes ps) way.point.0

  abbrev front : List Way
  front = ways_in levels ++ level

  whole : IsDescentBy ps shortcuts p ways (front ++ way ∷ [])
  whole = subst (IsDescentBy ps shortcuts p ways) (ap (λ ws. ways_in levels ++ ws) popped ∙ sym (append_assoc (ways_in levels) level (way ∷ []))) is

  pub point_within : way.point.0 < length ps
  point_within = (way_is ps p shortcuts ways front [] way whole).within

  front_are : All (IsWayDown ps p) front
  front_are = subst (All (IsWayDown ps p)) (append-nil front) (others_are ps p shortcuts ways front [] way whole)

  left_are : All (IsWayDown ps p) (ways_in (with_ways_on ps ranks shortcuts levels way) ++ level)
  left_are =
      let parts = all_parts (IsWayDown ps p) (ways_in levels) level front_are in
      All-append (IsWayDown ps p) (ways_in (with_ways_on ps ranks shortcuts levels way)) level
      (each_holds (λ ls. All (IsWayDown ps p) (ways_in ls)) (IsInto ps p way.point.0) (with_edge ps ranks shortcuts way)
      (λ ls e all into. all_with_way_at (IsWayDown ps p) (more_paths ps p) ls (slice_index ranks (way_on ps shortcuts way e).point.0) (way_on ps shortcuts way e) all
      (on_is_way ps p shortcuts down way (way_is ps p shortcuts ways front [] way whole) e into))
      levels es parts.0 (into_all ps way.point.0))
      parts.1

  left_brings : (own : OwnSamples) → ShortcutsHold ps own shortcuts → SamplesTellTheSame (samples_through_all (samples_of ps own) (ways_in (with_ways_on ps ranks shortcuts levels way) ++ level))
      (samples_through_all (samples_of ps own) (front ++ []) ++ flat_map (λ e. samples_through (samples_of ps own) (way_below ps way e)) es)
  left_brings own hold =
      let all = samples_of ps own in
      let T = samples_through_all all in
      let new = ways_in (with_ways_on ps ranks shortcuts levels way) in
      let next = flat_map (λ e. samples_through all (way_below ps way e)) es in
      same_trans (T (new ++ level)) ((T (ways_in levels) ++ next) ++ T level) (T (front ++ []) ++ next)
      (same_trans (T (new ++ level)) (T new ++ T level) ((T (ways_in levels) ++ next) ++ T level)
      (same_as (T (new ++ level)) (T new ++ T level) (through_append all new level))
      (same_append (T new) (T (ways_in levels) ++ next) (T level) (T level)
      (each_added all ways_in (with_edge ps ranks shortcuts way) (way_below ps way) (λ ls e. on_added ps own shortcuts hold ranks ls way e) levels es)
      (same_refl (T level))))
      (same_trans ((T (ways_in levels) ++ next) ++ T level) ((T (ways_in levels) ++ T level) ++ next) (T (front ++ []) ++ next)
      (same_inner (T (ways_in levels)) next (T level))
      (same_as ((T (ways_in levels) ++ T level) ++ next) (T (front ++ []) ++ next)
      (ap (λ xs. xs ++ next) (sym (ap T (append-nil front) ∙ through_append all (ways_in levels) level)))))

  pub followed : IsDescentBy ps shortcuts p (ways ++ way ∷ []) (ways_in (with_ways_on ps ranks shortcuts levels way) ++ level)
  followed = way_done ps p shortcuts ways front [] way whole deep (ways_in (with_ways_on ps ranks shortcuts levels way) ++ level) left_are left_brings

  -- ---- the ranks
  module _ (rank : ℕ) (ranked : AreLevels ranks (levels ++ (rank, old) ∷ [])) (below : AreBelow rank levels) where
    parts : AreLevels ranks levels × AreLevels ranks ((rank, old) ∷ [])
    parts = all_parts (IsLevel ranks) levels ((rank, old) ∷ []) ranked

    own : All (λ (w : Way). slice_index ranks w.point.0 ≡ rank) (level ++ way ∷ [])
    own = subst (λ ws. All (λ (w : Way). slice_index ranks w.point.0 ≡ rank) ws) popped (All-head (IsLevel ranks) (rank, old) [] parts.1)

    own_parts : All (λ (w : Way). slice_index ranks w.point.0 ≡ rank) level × All (λ (w : Way). slice_index ranks w.point.0 ≡ rank) (way ∷ [])
    own_parts = all_parts (λ (w : Way). slice_index ranks w.point.0 ≡ rank) level (way ∷ []) own

    way_at : slice_index ranks way.point.0 ≡ rank
    way_at = All-head (λ (w : Way). slice_index ranks w.point.0 ≡ rank) way [] own_parts.1

    lower : All (IsFromLower ranks rank) es
    lower = subst (λ r. All (IsFromLower ranks r) es) way_at (into_from_lower (nodes ps) ranks are way.point.0)

    pub levels_now : AreLevels ranks (with_ways_on ps ranks shortcuts levels way ++ (rank, level) ∷ [])
    levels_now = All-append (IsLevel ranks) (with_ways_on ps ranks shortcuts levels way) ((rank, level) ∷ [])
        (each_holds (AreLevels ranks) (IsFromLower ranks rank) (with_edge ps ranks shortcuts way)
        (λ ls e all less. levels_with_way ranks ls (slice_index ranks (way_on ps shortcuts way e).point.0) (way_on ps shortcuts way e) all refl) levels es parts.0 lower)
        (All-cons (IsLevel ranks) (rank, level) [] own_parts.0 (All-nil (IsLevel ranks)))

    pub below_now : AreBelow rank (with_ways_on ps ranks shortcuts levels way)
    below_now = each_holds (AreBelow rank) (IsFromLower ranks rank) (with_edge ps ranks shortcuts way)
        (λ ls e all less. below_with_way rank ls (slice_index ranks (way_on ps shortcuts way e).point.0) (way_on ps shortcuts way e) all
        (on_lower ps shortcuts down way e ranks are rank less)) levels es below lower

-- the ways of levels, where the last was taken out
pub ways_taken : (levels new : List (ℕ × List Way)) (rank : ℕ) (level : List Way) → levels ≡ new ++ (rank, level) ∷ [] → ways_in levels ≡ ways_in new ++ level
ways_taken levels new rank level is =
    ap ways_in is ∙ (flat_map-append (λ (l : ℕ × List Way). l.1) new ((rank, level) ∷ []) ∙ ap (λ ws. ways_in new ++ ws) (append-nil level))

-- the descent before any way is followed
pub at_first : (ps : List Point) (ranks : List ℕ) (shortcuts : List (Option Way)) (p : ℕ) → p < length ps → (levels : List (ℕ × List Way))
    → levels ≡ (slice_index ranks p, first_way p (length (all_vars_of ps p)) ∷ []) ∷ [] → IsDescentBy ps shortcuts p [] (ways_in levels) × AreLevels ranks levels
at_first ps ranks shortcuts p within levels is =
    let first : Way = first_way p (length (all_vars_of ps p)) in
    let rank = slice_index ranks p in (
      subst (λ (ls : List (ℕ × List Way)). IsDescentBy ps shortcuts p [] (ways_in ls)) (sym is) (by_any ps p shortcuts [] (first ∷ []) (begun ps p within)),
      subst (AreLevels ranks) (sym is)
          (All-cons (IsLevel ranks) (rank, first ∷ []) []
          (All-cons (λ (w : Way). slice_index ranks w.point.0 ≡ rank) first [] refl (All-nil (λ (w : Way). slice_index ranks w.point.0 ≡ rank)))
          (All-nil (IsLevel ranks))),
    )
