-- The declarations of the points so far.
use Rattle.std.specs.Prelude.{◌≡◌, ◌<◌, ◌+◌, ◌++◌, ◌∷◌, [], ℕ, true, false, List, Option, Some, None, filter_map, flat_map, is_some, length, option_map, option_to_list, take, refl}
use Rattle.std.specs.Borrow.{Bor}
use Rattle.std.proofs.Common.{◌∙◌, ap, append_assoc, arith, get_or, option_and_then, sym}
use Rattle.std.proofs.lemmas.Bool.{true≢false}
use Rattle.std.proofs.lemmas.List.{take_more}
use Rattle.std.proofs.lemmas.List.Concat.{flat_map-append}
use Rattle.std.proofs.lemmas.List.Elements.{filter_map-append}
use Rattle.std.proofs.lemmas.Option.{slice_get-get_or}
use Rattle.dk_decl.specs.declared.decls.PointDecl.{PointDecl}
use Rattle.dk_points.specs.Table.{Point, decl_at, decl_if_declared}
use Rattle.dk_state.specs.Declarations.{decls_of, point_lines}

one : (q : Point) → decls_of (q ∷ []) ≡ option_to_list (decl_if_declared q)
one q = elim (decl_if_declared q) as (λ d. filter_map (λ (_ : Point). d) (q ∷ []) ≡ option_to_list d) [ Some x ↦ refl | None ↦ refl ]

-- one point more
pub decls_more : (ps : List Point) (p : ℕ) → p < length ps → decls_of (take (p + 1) ps) ≡ decls_of (take p ps) ++ option_to_list (decl_at ps p)
decls_more [] p l = absurd (omega arith)
decls_more (q ∷ ps) p l =
    ap decls_of (take_more (q ∷ ps) p q l)
    ∙ (filter_map-append decl_if_declared (take p (q ∷ ps)) (get_or (q ∷ ps) p q ∷ [])
    ∙ ap (λ ds. decls_of (take p (q ∷ ps)) ++ ds) (one (get_or (q ∷ ps) p q)
    ∙ ap (λ r. option_to_list (option_and_then decl_if_declared r)) (sym (slice_get-get_or (q ∷ ps) p q l))))

-- a text with the lines of that point
pub lines_more : (ps : List Point) (p : ℕ) (start text next : List ℕ) (d : Option PointDecl) → p < length ps → d ≡ decl_at ps p
    → text ≡ start ++ flat_map point_lines (decls_of (take p ps)) → next ≡ text ++ flat_map point_lines (option_to_list d)
    → next ≡ start ++ flat_map point_lines (decls_of (take (p + 1) ps))
lines_more ps p start text next d l is so_far step =
    let here = flat_map point_lines (option_to_list (decl_at ps p)) in
    let before = flat_map point_lines (decls_of (take p ps)) in
    step
    ∙ (ap (λ o. text ++ flat_map point_lines (option_to_list o)) is
    ∙ (ap (λ t. t ++ here) so_far
    ∙ (append_assoc start before here
    ∙ ap (λ t. start ++ t) (sym (flat_map-append point_lines (decls_of (take p ps)) (option_to_list (decl_at ps p))) ∙ ap (flat_map point_lines) (sym (decls_more ps p l))))))

-- how many declarations a reference to one makes
pub counted_some : (r : Option (Bor PointDecl)) → is_some r ≡ true → length (option_to_list (option_map (λ (d : Bor PointDecl). d.now) r)) ≡ 1
counted_some (Some d) e = refl
counted_some None e = absurd (true≢false (sym e))

pub counted_none : (r : Option (Bor PointDecl)) → is_some r ≡ false → length (option_to_list (option_map (λ (d : Bor PointDecl). d.now) r)) ≡ 0
counted_none (Some d) e = absurd (true≢false e)
counted_none None e = refl
