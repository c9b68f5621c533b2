-- Files of recorders in another order are accepted where they are in one, and come to an alike history.
use Rattle.std.proofs.Common.{◌≡◌, ◌≢◌, ℕ, Bool, false, true, All, List, [], ◌∷◌, ◌++◌, IsPermutation, Result, Ok, Err, flat_map, get_or, length, map, refl, sym, ap, ◌∙◌, subst, append_assoc, arith}
use Rattle.std.proofs.lemmas.List.{map-append}
use Rattle.std.proofs.lemmas.List.Elements.{All-append, All-cons, All-head, All-map, All-nil, All-tail, All-weaker}
use Rattle.std.proofs.lemmas.List.Sorted.{All-permutation, IsPermutation-append_right, length_permutation}
use Rattle.std.specs.List.{join_with_byte}
use Rattle.dk_base.specs.Reading.{LineFault, ◌>>=◌}
use Rattle.dk_lines.specs.Left.{Left, Piece, lined, lined_by, pieces, without_cr}
use Rattle.dk_points.specs.Table.{Point}
use Rattle.dk_blocks.specs.Blocks.{groups_of}
use Rattle.dk_blocks.specs.History.{History, effect_of}
use Rattle.dk_blocks.specs.Reading.{after_all}
use Rattle.dk_turns.specs.Blocks.{Block, lines_of_block, plain_blocks, sample_blocks}
use Rattle.dk_turns.specs.Turns.{block_text, lines_text}
use Rattle.dk_recorders.specs.Blocks.{AreOfRecorders, IsSampleAlone, after_blocks, contents_of}
use Rattle.dk_recorders.specs.Interleaving.{IsInterleaved}
use Rattle.dk_recorders.specs.Recorders.{AreRecorders, HasNoLastCr, text_in_order}
use Rattle.dk_recorders.proofs.Awaiting.{NoWord, text_word}
use Rattle.dk_recorders.proofs.Files.{HasNoHeader, IsTaken, LinesTaken, plain_taken, samples_begin, samples_taken}
use Rattle.dk_recorders.proofs.Groups.{accepted_within, behind, cut, read_on}
use Rattle.dk_recorders.proofs.Lines.{Fit, HasNoLf, end_of, fit_if_within, is_past_limit, pieces_are, spaced, spaced_all, text_of_blocks, whole_lines}
use Rattle.dk_recorders.proofs.Mixed.{Alike, alike_refl, all_flat, all_in_order, mixed_blocks, table_stays}
use Rattle.dk_recorders.proofs.Permuted.{fit_moved, orders_permute}
use Rattle.dk_recorders.proofs.Spaced.{IsReady, blocks_read, numbered_blocks, numbered_contents}

-- ---- lists of lists
unmapped : {X Y : Type 0} (P : X → Type 0) (f : Y → X) (ys : List Y) → All P (map f ys) → All (λ y. P (f y)) ys
unmapped P f [] all = All-nil (λ y. P (f y))
unmapped P f (y ∷ ys) all = All-cons (λ z. P (f z)) y ys (All-head P (f y) (map f ys) all) (unmapped P f ys (All-tail P (f y) (map f ys) all))

-- ---- the sample blocks of recorders
file_ready : (file : List ℕ) → All HasNoHeader (sample_blocks file) → All HasNoLastCr (sample_blocks file) → All IsReady (sample_blocks file)
file_ready file none cr k d lt =
    let b : Block = get_or (sample_blocks file) k d in
    let lines : lines_of_block b ≡ b.body = ap (λ (hs : List (List ℕ)). hs ++ b.body) (none k d lt) in
    let taken : All IsTaken b.body = subst (All IsTaken) lines (samples_taken file k d lt) in
    record {
      no_headers = none k d lt;
      begins = samples_begin file none k d lt;
      kept = λ i e within. record { cut = cr k d lt i e within; trimmed = (taken i e within).trimmed; some = (taken i e within).some };
    }

blocks_ready : (ps : List Point) (files : List (List ℕ)) (bs : List Block) → AreRecorders ps files → IsInterleaved bs (map sample_blocks files) → All IsReady bs
blocks_ready ps files bs are order =
    all_in_order IsReady (map sample_blocks files) bs
    (All-map (All IsReady) sample_blocks files
    (λ k d lt.
    let file : List ℕ = get_or files k d in
    file_ready file
    (All-weaker IsSampleAlone HasNoHeader (λ b alone. alone.no_headers) (sample_blocks file) (unmapped (All IsSampleAlone) sample_blocks files are.blocks.alone k d lt))
    (are.no_last_cr k d lt)))
    order

-- two orders of the sample blocks of files
record AreOrders (files : List (List ℕ)) (first second : List Block) : Type 0 where
  one : IsInterleaved first (map sample_blocks files)
  two : IsInterleaved second (map sample_blocks files)

orders_moved : (files : List (List ℕ)) (first second : List Block) → AreOrders files first second → IsPermutation first second
orders_moved files first second orders = orders_permute first second (map sample_blocks files) orders.one orders.two

behind_plain : (ignores : Bool) (m : ℕ) (files : List (List ℕ)) (first second : List Block) (h j : History) → AreOrders files first second → NoWord h → AreRecorders j.table files
    → read_on ignores (effect_of ignores h) m (map without_cr (spaced first)) ≡ Ok j
    → (i : History) × (read_on ignores (effect_of ignores h) m (map without_cr (spaced second)) ≡ Ok i) × Alike j i
behind_plain ignores m files first second h j orders word are e =
    let recorders : List (List Block) = map sample_blocks files in
    let first_ready : All IsReady first = blocks_ready j.table files first are orders.one in
    let second_ready : All IsReady second = blocks_ready j.table files second are orders.two in
    let one : IsInterleaved (contents_of h.header (numbered_blocks m first)) recorders =
    subst (λ (bs : List Block). IsInterleaved bs recorders) (sym (numbered_contents first h.header m word first_ready)) orders.one in
    let two : IsInterleaved (contents_of h.header (numbered_blocks m second)) recorders =
    subst (λ (bs : List Block). IsInterleaved bs recorders) (sym (numbered_contents second h.header m word second_ready)) orders.two in
    let came : after_blocks ignores h (numbered_blocks m first) ≡ Ok j = sym (blocks_read ignores first h m first_ready) ∙ e in
    let table : j.table ≡ h.table =
    table_stays ignores h j (numbered_blocks m first) (all_in_order IsSampleAlone recorders (contents_of h.header (numbered_blocks m first)) are.blocks.alone one) came in
    let here = mixed_blocks ignores h j recorders (numbered_blocks m first) (numbered_blocks m second) one two
    (subst (λ (ps : List Point). AreOfRecorders ps recorders) table are.blocks) came in
    (here.0, blocks_read ignores second h m second_ready ∙ here.1, here.2)

-- ---- both parts of a text
spaced-append : (b c : Block) (bs cs : List Block) → spaced ((b ∷ bs) ++ c ∷ cs) ≡ spaced (b ∷ bs) ++ [] ∷ spaced (c ∷ cs)
spaced-append b c [] cs = refl
spaced-append b c (d ∷ bs) cs =
    ap (λ (ls : List (List ℕ)). lines_of_block b ++ [] ∷ ls) (spaced-append d c bs cs)
    ∙ sym (append_assoc (lines_of_block b) ([] ∷ spaced (d ∷ bs)) ([] ∷ spaced (c ∷ cs)))

-- at the gap between them
cut_at : (ignores : Bool) (h : History) (b c : Block) (bs cs : List Block)
    → read_on ignores (effect_of ignores h) 0 (map without_cr (spaced ((b ∷ bs) ++ c ∷ cs)))
    ≡ (read_on ignores (effect_of ignores h) 0 (map without_cr (spaced (b ∷ bs)) ++ [] ∷ []) >>= λ j. read_on ignores (effect_of ignores j) (behind 0 (map without_cr (spaced (b ∷ bs)))) (map without_cr (spaced (c ∷ cs))))
cut_at ignores h b c bs cs =
    ap (λ (ls : List (List ℕ)). read_on ignores (effect_of ignores h) 0 (map without_cr ls)) (spaced-append b c bs cs)
    ∙ ap (read_on ignores (effect_of ignores h) 0) (map-append without_cr (spaced (b ∷ bs)) ([] ∷ spaced (c ∷ cs)))
    ∙ cut ignores (effect_of ignores h) 0 (map without_cr (spaced (b ∷ bs))) (map without_cr (spaced (c ∷ cs)))

both_parts : (ignores : Bool) (h : History) (front : List Block) (files : List (List ℕ)) (first second : List Block) (j : History)
    → AreOrders files first second → NoWord h → AreRecorders j.table files
    → read_on ignores (effect_of ignores h) 0 (map without_cr (spaced (front ++ first))) ≡ Ok j
    → (i : History) × (read_on ignores (effect_of ignores h) 0 (map without_cr (spaced (front ++ second))) ≡ Ok i) × Alike j i
both_parts ignores h [] files first second j orders word are e = behind_plain ignores 0 files first second h j orders word are e
both_parts ignores h (b ∷ bs) files [] [] j orders word are e = (j, e, alike_refl j)
both_parts ignores h (b ∷ bs) files [] (d ∷ ds) j orders word are e =
    let long : length (d ∷ ds) ≡ 0 = length_permutation [] (d ∷ ds) (orders_moved files [] (d ∷ ds) orders) in absurd (omega (arith, long))
both_parts ignores h (b ∷ bs) files (c ∷ cs) [] j orders word are e =
    let long : 0 ≡ length (c ∷ cs) = length_permutation (c ∷ cs) [] (orders_moved files (c ∷ cs) [] orders) in absurd (omega (arith, long))
both_parts ignores h (b ∷ bs) files (c ∷ cs) (d ∷ ds) j orders word are e =
    by (read_on ignores (effect_of ignores h) 0 (map without_cr (spaced (b ∷ bs)) ++ [] ∷ [])) refl (sym (cut_at ignores h b c bs cs) ∙ e)
  where
    by : (r : Result History LineFault) → read_on ignores (effect_of ignores h) 0 (map without_cr (spaced (b ∷ bs)) ++ [] ∷ []) ≡ r
        → (r >>= λ g. read_on ignores (effect_of ignores g) (behind 0 (map without_cr (spaced (b ∷ bs)))) (map without_cr (spaced (c ∷ cs)))) ≡ Ok j
        → (i : History) × (read_on ignores (effect_of ignores h) 0 (map without_cr (spaced ((b ∷ bs) ++ d ∷ ds))) ≡ Ok i) × Alike j i
    by (Err fault) front f = absurd (cc f)
    by (Ok g) front f =
        let m : ℕ = behind 0 (map without_cr (spaced (b ∷ bs))) in
        let later : NoWord g = text_word ignores h 0 (map without_cr (spaced (b ∷ bs)) ++ [] ∷ []) g word front in
        let here = behind_plain ignores m files (c ∷ cs) (d ∷ ds) g j orders later are f in (
          here.0,
          cut_at ignores h b d bs ds
              ∙ ap (λ (r : Result History LineFault). r >>= λ k. read_on ignores (effect_of ignores k) m (map without_cr (spaced (d ∷ ds)))) front
              ∙ here.1,
          here.2,
        )

-- ---- texts
-- what a text comes to as a file behind a history, within these limits
abbrev pub read_text : Bool → ℕ → ℕ → History → List ℕ → Result History LineFault
read_text ignores limit room h text = after_all ignores (effect_of ignores h) (groups_of (lined limit room 0 true text))

fit_text : (ignores : Bool) (limit room : ℕ) (h : History) (lines : List (List ℕ)) (j : History) → All HasNoLf lines
    → read_text ignores limit room h (lines_text lines) ≡ Ok j → Fit limit room lines
unfolding lined
fit_text ignores limit room h lines j none e =
    let within : is_past_limit (end_of (lined_by limit room true 0 (pieces (lines_text lines)))) ≡ false =
    accepted_within ignores (effect_of ignores h) (lined_by limit room true 0 (pieces (lines_text lines))) j e in
    fit_if_within limit room 0 lines
    (subst (λ (ps : List Piece). is_past_limit (end_of (lined_by limit room true 0 ps)) ≡ false) (pieces_are lines none) within)

lines_read : (ignores : Bool) (limit room : ℕ) (h : History) (lines : List (List ℕ)) → All HasNoLf lines → Fit limit room lines
    → read_text ignores limit room h (lines_text lines) ≡ read_on ignores (effect_of ignores h) 0 (map without_cr lines)
unfolding lined
lines_read ignores limit room h lines none fit =
    ap (λ (ps : List Piece). after_all ignores (effect_of ignores h) (groups_of (lined_by limit room true 0 ps))) (pieces_are lines none)
    ∙ ap (λ (left : Left). after_all ignores (effect_of ignores h) (groups_of left)) (whole_lines limit room 0 lines fit)

no_lf : (bs : List Block) → All LinesTaken bs → All HasNoLf (spaced bs)
no_lf bs taken =
    spaced_all HasNoLf (All-nil (λ b. b ≢ 10)) bs
    (All-weaker LinesTaken (λ b. All HasNoLf (lines_of_block b)) (λ b all. All-weaker IsTaken HasNoLf (λ l t. t.no_lf) (lines_of_block b) all) bs taken)

order_taken : (files : List (List ℕ)) (bs : List Block) → IsInterleaved bs (map sample_blocks files) → All LinesTaken bs
order_taken files bs order =
    all_in_order LinesTaken (map sample_blocks files) bs (All-map (All LinesTaken) sample_blocks files (λ k d lt. samples_taken (get_or files k d))) order

pub ordered_text : (ignores : Bool) (limit room : ℕ) (h : History) (files : List (List ℕ)) (first second : List Block) (j : History)
    → NoWord h → IsInterleaved first (map sample_blocks files) → IsInterleaved second (map sample_blocks files)
    → read_text ignores limit room h (text_in_order files first) ≡ Ok j → AreRecorders j.table files
    → (i : History) × (read_text ignores limit room h (text_in_order files second) ≡ Ok i) × Alike j i
unfolding text_in_order
ordered_text ignores limit room h files first second j word one two e are =
    let orders : AreOrders files first second = record { one = one; two = two } in
    let front : List Block = flat_map plain_blocks files in
    let moved : IsPermutation (front ++ first) (front ++ second) = IsPermutation-append_right front first second (orders_moved files first second orders) in
    let taken : All LinesTaken (front ++ first) =
    All-append LinesTaken front first
    (all_flat LinesTaken plain_blocks files (λ k d lt. plain_taken (get_or files k d)))
    (order_taken files first one) in
    let lf : All HasNoLf (spaced (front ++ first)) = no_lf (front ++ first) taken in
    let lf_too : All HasNoLf (spaced (front ++ second)) = no_lf (front ++ second) (All-permutation LinesTaken (front ++ first) (front ++ second) moved taken) in
    let read : read_text ignores limit room h (lines_text (spaced (front ++ first))) ≡ Ok j =
    ap (read_text ignores limit room h) (sym (text_of_blocks (front ++ first))) ∙ e in
    let fit : Fit limit room (spaced (front ++ first)) = fit_text ignores limit room h (spaced (front ++ first)) j lf read in
    let fit_too : Fit limit room (spaced (front ++ second)) = fit_moved limit room (front ++ first) (front ++ second) moved fit in
    let here = both_parts ignores h front files first second j orders word are (sym (lines_read ignores limit room h (spaced (front ++ first)) lf fit) ∙ read) in
    let whole : read_text ignores limit room h (join_with_byte 10 (map block_text (front ++ second))) ≡ read_text ignores limit room h (lines_text (spaced (front ++ second))) =
    ap (read_text ignores limit room h) (text_of_blocks (front ++ second)) in
    (here.0, whole ∙ (lines_read ignores limit room h (spaced (front ++ second)) lf_too fit_too ∙ here.1), here.2)
