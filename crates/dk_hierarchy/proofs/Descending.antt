-- Going down from a point, way by way.
use Rattle.std.specs.Prelude.{◌≡◌, ◌<◌, ◌++◌, ℕ, All, List, [], ◌∷◌, flat_map, length, map, Option, refl}
use Rattle.std.proofs.Common.{◌∙◌, ap, arith, subst, sym}
use Rattle.std.proofs.lemmas.List.{append-nil, append_assoc}
use Rattle.std.proofs.lemmas.List.Elements.{All-append, All-cons, All-head, All-nil, All-tail}
use Rattle.dk_graph.specs.Graphs.{ParentsAreDeeper, edges_into}
use Rattle.dk_graph.specs.declared.nodes.Edge.{Edge}
use Rattle.dk_points.specs.Links.{nodes}
use Rattle.dk_points.specs.Table.{Point}
use Rattle.dk_hierarchy.proofs.MoreWays.{all_parts, through_append}
use Rattle.dk_hierarchy.proofs.Onward.{all_mapped_own, brought_below, edge_partners, own_are_partners, partners_onward}
use Rattle.dk_hierarchy.proofs.Samples.{all_variables}
use Rattle.dk_hierarchy.proofs.Telling.{Samples, same_append, same_as, same_behind, same_inner, same_refl, same_swap, same_sym, same_trans}
use Rattle.dk_hierarchy.specs.Edges.{ArePartners}
use Rattle.dk_hierarchy.specs.Descent.{IsDescent, IsWayDown, first_way, own_partners}
use Rattle.dk_hierarchy.specs.Samples.{OwnSamples, all_vars_of, mapped_sample, own_samples_of, partners_of, samples_of}
use Rattle.dk_hierarchy.specs.Shortcuts.{IsDescentBy, ShortcutsHold}
use Rattle.dk_hierarchy.specs.Ways.{SamplesTellTheSame, repeated_samples, samples_through, samples_through_all, way_below, with_paths}
use Rattle.dk_hierarchy.specs.declared.way.Way.{Way}

module _ (ps : List Point) (p : ℕ) where
  pub more_paths : (other : Way) (n : ℕ) → IsWayDown ps p other → IsWayDown ps p (with_paths other n)
  more_paths other n is = let some = is.some in record { within = is.within; partners = is.partners; some = omega (arith, some) }

  -- an edge into a way's lower point, from one that is in the table
  abbrev pub IsInto : ℕ → Edge → Type 0
  IsInto q e = (e.child.0 < length ps) × (e.parent.0 ≡ q)

  pub below_is_way : (way : Way) → IsWayDown ps p way → (e : Edge) → IsInto way.point.0 e → IsWayDown ps p (way_below ps way e)
  below_is_way way is e into = record {
    within = into.0;
    partners = partners_onward (all_vars_of ps p) (all_vars_of ps e.parent.0) (all_vars_of ps e.child.0) way.partners (partners_of ps e)
        (subst (λ q. ArePartners (all_vars_of ps p) (all_vars_of ps q) way.partners) (sym into.1) is.partners) (edge_partners ps e);
    some = is.some;
  }

  -- ---- one of the ways that are left is done
  module _ (shortcuts : List (Option Way)) (ways before after : List Way) (way : Way) (is : IsDescentBy ps shortcuts p ways (before ++ way ∷ after)) where
    behind : All (IsWayDown ps p) (way ∷ after)
    behind = (all_parts (IsWayDown ps p) before (way ∷ after) is.pending).1

    pub way_is : IsWayDown ps p way
    way_is = All-head (IsWayDown ps p) way after behind

    pub others_are : All (IsWayDown ps p) (before ++ after)
    others_are = All-append (IsWayDown ps p) before after (all_parts (IsWayDown ps p) before (way ∷ after) is.pending).0 (All-tail (IsWayDown ps p) way after behind)

    abbrev es : List Edge
    es = edges_into (nodes ps) way.point.0

    module _ (deep : ParentsAreDeeper (nodes ps)) (left : List Way) (left_are : All (IsWayDown ps p) left)
        (left_brings : (own : OwnSamples) → ShortcutsHold ps own shortcuts → SamplesTellTheSame (samples_through_all (samples_of ps own) left)
        (samples_through_all (samples_of ps own) (before ++ after) ++ flat_map (λ e. samples_through (samples_of ps own) (way_below ps way e)) es)) where
      module _ (own : OwnSamples) (hold : ShortcutsHold ps own shortcuts) where
        abbrev all : ℕ → Samples
        all = samples_of ps own

        abbrev owns : ℕ → Samples
        owns = own_samples_of ps own

        abbrev done : Samples
        done = samples_through_all owns ways

        abbrev front : Samples
        front = samples_through_all all before

        abbrev back : Samples
        back = samples_through_all all after

        abbrev whole : Samples
        whole = samples_through all way

        abbrev of_way : Samples
        of_way = samples_through owns way

        abbrev next : Samples
        next = flat_map (λ e. samples_through all (way_below ps way e)) es

        abbrev others : Samples
        others = samples_through_all all (before ++ after)

        abbrev now : Samples
        now = samples_through_all all left

        abbrev was : Samples
        was = samples_through_all all (before ++ way ∷ after)

        -- what was left is the way's own samples, and what is left
        apart : SamplesTellTheSame was (others ++ whole)
        apart =
            same_trans was ((front ++ whole) ++ back) (others ++ whole)
            (same_as was ((front ++ whole) ++ back) (through_append all before (way ∷ after) ∙ sym (append_assoc front whole back)))
            (same_trans ((front ++ whole) ++ back) ((front ++ back) ++ whole) (others ++ whole)
            (same_inner front whole back)
            (same_as ((front ++ back) ++ whole) (others ++ whole) (ap (λ xs. xs ++ whole) (sym (through_append all before after)))))

        moved : SamplesTellTheSame was (of_way ++ now)
        moved =
            same_trans was (others ++ whole) (of_way ++ now) apart
            (same_trans (others ++ whole) (others ++ (of_way ++ next)) (of_way ++ now)
            (same_behind others whole (of_way ++ next) (brought_below ps deep own way))
            (same_trans (others ++ (of_way ++ next)) ((others ++ of_way) ++ next) (of_way ++ now)
            (same_as (others ++ (of_way ++ next)) ((others ++ of_way) ++ next) (sym (append_assoc others of_way next)))
            (same_trans ((others ++ of_way) ++ next) ((others ++ next) ++ of_way) (of_way ++ now)
            (same_inner others of_way next)
            (same_trans ((others ++ next) ++ of_way) (now ++ of_way) (of_way ++ now)
            (same_append (others ++ next) now of_way of_way (same_sym now (others ++ next) (left_brings own hold)) (same_refl of_way))
            (same_swap now of_way)))))

        brings : SamplesTellTheSame (samples_of ps own p) (samples_through_all owns (ways ++ way ∷ []) ++ now)
        brings =
            same_trans (samples_of ps own p) (done ++ was) (samples_through_all owns (ways ++ way ∷ []) ++ now) (is.brings own hold)
            (same_trans (done ++ was) (done ++ (of_way ++ now)) (samples_through_all owns (ways ++ way ∷ []) ++ now)
            (same_behind done was (of_way ++ now) moved)
            (same_as (done ++ (of_way ++ now)) (samples_through_all owns (ways ++ way ∷ []) ++ now)
            (sym (append_assoc done of_way now)
            ∙ ap (λ xs. xs ++ now) (ap (λ xs. done ++ xs) (sym (append-nil of_way)) ∙ sym (through_append owns ways (way ∷ []))))))

      pub way_done : IsDescentBy ps shortcuts p (ways ++ way ∷ []) left
      way_done = record {
        done = All-append (IsWayDown ps p) ways (way ∷ []) is.done (All-cons (IsWayDown ps p) way [] way_is (All-nil (IsWayDown ps p)));
        pending = left_are;
        brings = λ own hold. brings own hold;
      }

  -- ---- the first way
  abbrev first : Way
  first = first_way p (length (all_vars_of ps p))

  pub begun : p < length ps → IsDescent ps p [] (first ∷ [])
  unfolding repeated_samples
  begun within = record {
    done = All-nil (IsWayDown ps p);
    pending = All-cons (IsWayDown ps p) first [] (record { within = within; partners = own_are_partners (all_vars_of ps p); some = omega arith }) (All-nil (IsWayDown ps p));
    brings = λ own.
        same_as (samples_of ps own p) (samples_through_all (samples_of ps own) (first ∷ []))
        (sym (append-nil (samples_through (samples_of ps own) first)
        ∙ (append-nil (map (mapped_sample (own_partners (length (all_vars_of ps p)))) (samples_of ps own p))
        ∙ all_mapped_own (length (all_vars_of ps p)) (samples_of ps own p) (all_variables ps own p))));
  }

  -- ---- without shortcuts, and with some
  pub by_any : (shortcuts : List (Option Way)) (ways left : List Way) → IsDescent ps p ways left → IsDescentBy ps shortcuts p ways left
  by_any shortcuts ways left is = record { done = is.done; pending = is.pending; brings = λ own hold. is.brings own }

  pub by_none : (ways left : List Way) → IsDescentBy ps [] p ways left → IsDescent ps p ways left
  by_none ways left is = record { done = is.done; pending = is.pending; brings = λ own. is.brings own (λ q. refl) }
