-- What more rows add to what was written.
use Rattle.std.proofs.Common.{◌≡◌, ◌≤◌, ◌<◌, ◌-◌, ◌∙◌, ◌∷◌, ◌++◌, [], ℕ, Bool, true, false, List, Option, Some, None, Err, append_assoc, append-nil, length, length-append, map, take, refl, sym, ap, arith, zero, suc}
use Rattle.std.specs.Prelude.{nat_le}
use Rattle.std.proofs.lemmas.Bool.{leb-false, leb-true}
use Rattle.std.proofs.lemmas.Grind.{flat_map-append}
use Rattle.std.proofs.lemmas.List.{map-append, take-append-le, take_all}
use Rattle.dk_decl.specs.declared.decls.PointDecl.{PointDecl}
use Rattle.dk_write.specs.Texts.{Records, Write, block_text, trace_text}
use Rattle.dk_table.specs.Tables.PlacedRows.{Placed}
use Rattle.dk_table.specs.Streams.{Step, Stream, first_refusal, nothing, nothing_but, rows_before, stream_by, stream_with, told_steps, trace_before}
use Rattle.dk_table.specs.Traces.{are_named, declaration_of, kinds_of, record_of, writes_of}
use Rattle.dk_table.specs.declared.columns.ColumnKind.{ColumnKind}
use Rattle.dk_table.specs.declared.faults.Refusal.{Refusal}
use Rattle.dk_table.specs.declared.faults.TableWhy.TheVariants.{BadName}
use Rattle.dk_table.proofs.Streamed.{Apart, before_apart, before_none, before_some, by_named, by_unnamed, refused_behind, refused_early, refused_in_front, told_apart, written_known, written_nothing}

-- ---- the first rows of more
take_split : (n : ℕ) (front rest : List Step) → (more : List Step) × (take n (front ++ rest) ≡ take n front ++ more)
take_split n front rest = go (nat_le n (length front)) refl
  where
    behind : (n : ℕ) (front rest : List Step) → length front < n → take n (front ++ rest) ≡ front ++ take (n - length front) rest
    behind n [] rest short = let same : n ≡ n - 0 = omega arith in ap (λ (k : ℕ). take k rest) same
    behind zero (x ∷ front) rest short = absurd (omega arith)
    behind (suc n) (x ∷ front) rest short =
        let same : n - length front ≡ suc n - length (x ∷ front) = omega arith in
        ap (λ (l : List Step). x ∷ l) (behind n front rest (omega (arith, short)) ∙ ap (λ (k : ℕ). front ++ take k rest) same)

    go : (b : Bool) → nat_le n (length front) ≡ b → (more : List Step) × (take n (front ++ rest) ≡ take n front ++ more)
    go true is = ([], take-append-le n front rest (leb-true n (length front) is) ∙ sym (append-nil (take n front)))
    go false is =
        let short : length front < n = leb-false n (length front) is in
        let whole : take n front ≡ front = take_all n front (omega (arith, short)) in
        (take (n - length front) rest, behind n front rest short ∙ ap (λ (l : List Step). l ++ take (n - length front) rest) (sym whole))

records_more : (d : PointDecl) (kinds : List ColumnKind) (front more : List Placed)
    → trace_text (writes_of d kinds (front ++ more)) ≡ trace_text (writes_of d kinds front) ++ trace_text (map (λ row. Records (record_of d kinds row)) more)
records_more d kinds front more =
    let f : Placed → Write = λ row. Records (record_of d kinds row) in
    ap (λ (l : List Write). trace_text (writes_of d kinds [] ++ l)) (map-append f front more)
    ∙ ap trace_text (sym (append_assoc (writes_of d kinds []) (map f front) (map f more)))
    ∙ flat_map-append block_text (writes_of d kinds front) (map f more)

module _ (point : List ℕ) (names : List (List ℕ)) (types : ℕ) (steps : List Step) where
  abbrev kinds : List ColumnKind
  kinds = kinds_of (rows_before (take types steps)) (length names)

  abbrev d : PointDecl
  d = declaration_of point names kinds

  abbrev so_far : Stream
  so_far = stream_with point names types false steps

  -- how far it is
  data Far : Type 0 where
    Early : (refusal : Refusal) → first_refusal (take types steps) ≡ Some refusal → so_far ≡ nothing_but refusal → Far
    Waiting : first_refusal (take types steps) ≡ None → length steps < types → so_far ≡ nothing → Far
    Known : first_refusal (take types steps) ≡ None → types ≤ length steps → so_far ≡ stream_by d kinds steps → Far

  far : Far
  far = go (first_refusal (take types steps)) (nat_le types (length steps)) refl refl
    where
      go : (o : Option Refusal) (b : Bool) → first_refusal (take types steps) ≡ o → nat_le types (length steps) ≡ b → Far
      go (Some refusal) b some is = Early refusal some (refused_early point names types false steps refusal some)
      go None true none is =
          let many : types ≤ length steps = leb-true types (length steps) is in Known none many (written_known point names types false steps kinds none many refl)
      go None false none is =
          let short : length steps < types = leb-false types (length steps) is in Waiting none short (written_nothing point names types steps none short)

  module _ (ended : Bool) (more : List Step) where
    abbrev grown : Stream
    grown = stream_with point names types ended (steps ++ more)

    early_stays : (refusal : Refusal) → first_refusal (take types steps) ≡ Some refusal → grown ≡ nothing_but refusal
    early_stays refusal some =
        let (rest, is) = take_split types steps more in
        refused_early point names types ended (steps ++ more) refusal (ap first_refusal is ∙ refused_in_front (take types steps) rest refusal some)

    known_stays : first_refusal (take types steps) ≡ None → types ≤ length steps → grown ≡ stream_by d kinds (steps ++ more)
    known_stays none many =
        let same : take types (steps ++ more) ≡ take types steps = take-append-le types steps more many in
        written_known point names types ended (steps ++ more) kinds (ap first_refusal same ∙ none) (omega (arith, many, length-append steps more))
        (ap (λ (l : List Step). kinds_of (rows_before l) (length names)) (sym same))

    -- What is refused stays so, whatever follows.
    pub refusal_stays : (refusal : Refusal) → so_far.refusal ≡ Some refusal → grown ≡ so_far
    refusal_stays refusal some = go far
      where
        by_name : (b : Bool) → are_named d ≡ b → so_far ≡ stream_by d kinds steps → grown ≡ stream_by d kinds (steps ++ more) → grown ≡ so_far
        by_name false named is then = then ∙ by_unnamed d kinds (steps ++ more) named ∙ sym (is ∙ by_unnamed d kinds steps named)
        by_name true named is then =
            let front : List Step = told_steps kinds steps in
            let rest : List Step = told_steps kinds more in
            let refused : first_refusal front ≡ Some refusal = ap (λ (s : Stream). s.refusal) (sym (is ∙ by_named d kinds steps named)) ∙ some in
            then ∙ by_named d kinds (steps ++ more) named ∙ ap (trace_before d kinds) (told_apart kinds steps more)
            ∙ ap (λ (rows : List Placed). record { written = writes_of d kinds rows; refusal = first_refusal (front ++ rest) }) (before_some front rest refusal refused)
            ∙ ap (λ (o : Option Refusal). record { written = writes_of d kinds (rows_before front); refusal = o }) (refused_in_front front rest refusal refused ∙ sym refused)
            ∙ sym (is ∙ by_named d kinds steps named)

        go : Far → grown ≡ so_far
        go (Early r early is) = early_stays r early ∙ sym is
        go (Waiting none short is) = let absent : nothing.refusal ≡ Some refusal = ap (λ (s : Stream). s.refusal) (sym is) ∙ some in absurd (cc absent)
        go (Known none many is) = by_name (are_named d) refl is (known_stays none many)

    -- What was written stays in front.
    pub written_grows : (rest : List ℕ) × (trace_text grown.written ≡ trace_text so_far.written ++ rest)
    written_grows = go far
      where
        by_name : (b : Bool) → are_named d ≡ b → so_far ≡ stream_by d kinds steps → grown ≡ stream_by d kinds (steps ++ more)
            → (rest : List ℕ) × (trace_text grown.written ≡ trace_text so_far.written ++ rest)
        by_name false named is then =
            ([], ap (λ (s : Stream). trace_text s.written) (then ∙ by_unnamed d kinds (steps ++ more) named ∙ sym (is ∙ by_unnamed d kinds steps named)) ∙ sym (append-nil (trace_text so_far.written)))
        by_name true named is then =
            let front : List Step = told_steps kinds steps in
            let rest : List Step = told_steps kinds more in
            let a : Apart front rest = before_apart front rest in (
              trace_text (map (λ row. Records (record_of d kinds row)) a.more),
              ap (λ (s : Stream). trace_text s.written) (then ∙ by_named d kinds (steps ++ more) named ∙ ap (trace_before d kinds) (told_apart kinds steps more))
                  ∙ ap (λ (rows : List Placed). trace_text (writes_of d kinds rows)) a.is ∙ records_more d kinds (rows_before front) a.more
                  ∙ ap (λ (s : Stream). trace_text s.written ++ trace_text (map (λ row. Records (record_of d kinds row)) a.more)) (sym (is ∙ by_named d kinds steps named)),
            )

        nothing_before : so_far.written ≡ [] → (rest : List ℕ) × (trace_text grown.written ≡ trace_text so_far.written ++ rest)
        nothing_before none = (trace_text grown.written, ap (λ (l : List Write). trace_text l ++ trace_text grown.written) (sym none))

        go : Far → (rest : List ℕ) × (trace_text grown.written ≡ trace_text so_far.written ++ rest)
        go (Early r early is) = nothing_before (ap (λ (s : Stream). s.written) is)
        go (Waiting none short is) = nothing_before (ap (λ (s : Stream). s.written) is)
        go (Known none many is) = by_name (are_named d) refl is (known_stays none many)

  -- A refusal behind rows of which none is refused comes behind what was written.
  pub refused_at_end : (refusal : Refusal) → so_far.refusal ≡ None → stream_with point names types false (steps ++ Err refusal ∷ []) ≡ record { written = so_far.written; refusal = Some refusal }
  refused_at_end refusal clean = go far
    where
      last : List Step
      last = Err refusal ∷ []

      by_name : (b : Bool) → are_named d ≡ b → so_far ≡ stream_by d kinds steps → stream_with point names types false (steps ++ last) ≡ stream_by d kinds (steps ++ last)
          → stream_with point names types false (steps ++ last) ≡ record { written = so_far.written; refusal = Some refusal }
      by_name false named is then = let some : Some (record { file = 0; row = 1; why = BadName }) ≡ None = ap (λ (s : Stream). s.refusal) (sym (is ∙ by_unnamed d kinds steps named)) ∙ clean in absurd (cc some)
      by_name true named is then =
          let front : List Step = told_steps kinds steps in
          let none : first_refusal front ≡ None = ap (λ (s : Stream). s.refusal) (sym (is ∙ by_named d kinds steps named)) ∙ clean in
          then ∙ by_named d kinds (steps ++ last) named ∙ ap (trace_before d kinds) (told_apart kinds steps last)
          ∙ ap (λ (rows : List Placed). record { written = writes_of d kinds rows; refusal = first_refusal (front ++ last) }) (before_none front last none ∙ append-nil (rows_before front))
          ∙ ap (λ (o : Option Refusal). record { written = writes_of d kinds (rows_before front); refusal = o }) (refused_behind front last none)
          ∙ ap (λ (s : Stream). record { written = s.written; refusal = Some refusal }) (sym (is ∙ by_named d kinds steps named))

      go : Far → stream_with point names types false (steps ++ last) ≡ record { written = so_far.written; refusal = Some refusal }
      go (Early r early is) = let some : Some r ≡ None = ap (λ (s : Stream). s.refusal) (sym is) ∙ clean in absurd (cc some)
      go (Waiting none short is) =
          let whole : take types steps ≡ steps = take_all types steps (omega (arith, short)) in
          let all : take types (steps ++ last) ≡ steps ++ last = take_all types (steps ++ last) (omega (arith, short, length-append steps last)) in
          refused_early point names types false (steps ++ last) refusal (ap first_refusal all ∙ refused_behind steps last (ap first_refusal (sym whole) ∙ none))
          ∙ ap (λ (s : Stream). record { written = s.written; refusal = Some refusal }) (sym is)
      go (Known none many is) = by_name (are_named d) refl is (known_stays false last none many)
