-- Sample blocks of recorders in another order are accepted where they are in one, and come to an alike history.
use Rattle.std.proofs.Common.{◌≡◌, ℕ, Bool, All, List, [], ◌∷◌, IsPermutation, Option, Some, None, option_map, Result, Ok, Err, flat_map, get_or, refl, sym, ap, ◌∙◌, subst}
use Rattle.std.proofs.lemmas.List.Elements.{All-append, All-head, All-nil, All-tail}
use Rattle.std.proofs.lemmas.List.Sorted.{All-permutation, IsPermutation-refl}
use Rattle.std.specs.Result.{result_ok}
use Rattle.dk_base.specs.Reading.{LineFault}
use Rattle.dk_points.specs.Table.{Point}
use Rattle.dk_blocks.specs.History.{History}
use Rattle.dk_turns.specs.Blocks.{Block}
use Rattle.dk_recorders.specs.Blocks.{AreOfRecorders, EndedBlock, HasNonce, IsSampleAlone, ShareNoNonce, after_blocks, call_in, contents_of}
use Rattle.dk_recorders.specs.Interleaving.{IsInterleaved}
use Rattle.dk_recorders.proofs.Chains.{blocks_taken, kept_of, with_kept}
use Rattle.dk_recorders.proofs.Orders.{Both, run, same_orders}
use Rattle.dk_recorders.proofs.Permuted.{orders_permute}
use Rattle.dk_recorders.proofs.Rounds.{one_by_one_interleave}
use Rattle.dk_recorders.proofs.Taking.{Kept, Like, like_refl, like_sym, like_trans, step, step_alike, step_exchanged}

-- the same table, header lines in force and grammar, and for each point the same own samples in any order
pub record Alike (h other : History) : Type 0 where
  pub table : other.table ≡ h.table
  pub header : other.header ≡ h.header
  pub grammar : other.grammar ≡ h.grammar
  pub samples : (p : ℕ) → IsPermutation (get_or h.samples p []) (get_or other.samples p [])

pub alike_refl : (h : History) → Alike h h
alike_refl h = record { table = refl; header = refl; grammar = refl; samples = λ p. IsPermutation-refl (get_or h.samples p []) }

pub all_flat : {X Y : Type 0} (P : X → Type 0) (f : Y → List X) (ys : List Y) → All (λ y. All P (f y)) ys → All P (flat_map f ys)
all_flat P f [] all = All-nil P
all_flat P f (y ∷ ys) all =
    All-append P (f y) (flat_map f ys) (All-head (λ z. All P (f z)) y ys all) (all_flat P f ys (All-tail (λ z. All P (f z)) y ys all))

-- what is so of all blocks of the recorders is so of all in an order
pub all_in_order : (P : Block → Type 0) (recorders : List (List Block)) (bs : List Block) → All (λ blocks. All P blocks) recorders → IsInterleaved bs recorders → All P bs
all_in_order P recorders bs all order =
    All-permutation P (flat_map (λ (list : List Block). list) recorders) bs
    (orders_permute (flat_map (λ (list : List Block). list) recorders) bs recorders (one_by_one_interleave recorders) order)
    (all_flat P (λ (list : List Block). list) recorders all)

runs_alike : (ignores : Bool) (ps : List Point) (recorders : List (List Block)) (first second : List Block) (k : Kept)
    → AreOfRecorders ps recorders → IsInterleaved first recorders → IsInterleaved second recorders
    → Both Like (run (step ignores ps) k first) (run (step ignores ps) k second)
runs_alike ignores ps recorders first second k are one two =
    same_orders (step ignores ps) Like (λ b. HasNonce (call_in ps b)) (λ b c. ShareNoNonce (call_in ps b) (call_in ps c))
    like_refl like_sym like_trans (step_alike ignores ps) (step_exchanged ignores ps)
    first second recorders one two are.nonces are.apart k k (like_refl k)

some_of : {A : Type 0} (r : Result A LineFault) (x : A) → result_ok r ≡ Some x → r ≡ Ok x
some_of (Ok y) x e = let same : y ≡ x = cc e in ap (λ z. Ok z) same
some_of (Err fault) x e = absurd (cc e)

kept_alike : (h j : History) (o u : Option Kept) (r : Result History LineFault) → Some j ≡ option_map (with_kept h) o → Both Like o u
    → result_ok r ≡ option_map (with_kept h) u → (i : History) × (r ≡ Ok i) × Alike j i
kept_alike h j None u r e both f = absurd (cc e)
kept_alike h j (Some k) None r e both f = absurd both
kept_alike h j (Some k) (Some l) r e like f =
    let same : with_kept h k ≡ j = cc e in (
      with_kept h l,
      some_of r (with_kept h l) f,
      subst (λ (g : History). Alike g (with_kept h l)) same (record { table = refl; header = refl; grammar = refl; samples = like.own }),
    )

kept_table : (h j : History) (o : Option Kept) → Some j ≡ option_map (with_kept h) o → j.table ≡ h.table
kept_table h j None e = absurd (cc e)
kept_table h j (Some k) e = let same : j ≡ with_kept h k = cc e in ap (λ (g : History). g.table) same

-- sample blocks declare nothing
pub table_stays : (ignores : Bool) (before after : History) (bs : List EndedBlock) → All IsSampleAlone (contents_of before.header bs)
    → after_blocks ignores before bs ≡ Ok after → after.table ≡ before.table
table_stays ignores before after bs alone e =
    kept_table before after (run (step ignores before.table) (kept_of before) (contents_of before.header bs))
    (sym (ap result_ok e) ∙ blocks_taken ignores bs before alone)

pub mixed_blocks : (ignores : Bool) (before after : History) (recorders : List (List Block)) (first second : List EndedBlock)
    → IsInterleaved (contents_of before.header first) recorders → IsInterleaved (contents_of before.header second) recorders
    → AreOfRecorders before.table recorders → after_blocks ignores before first ≡ Ok after
    → (other : History) × (after_blocks ignores before second ≡ Ok other) × Alike after other
mixed_blocks ignores before after recorders first second one two are e =
    let in_first : List Block = contents_of before.header first in
    let in_second : List Block = contents_of before.header second in
    kept_alike before after (run (step ignores before.table) (kept_of before) in_first) (run (step ignores before.table) (kept_of before) in_second)
    (after_blocks ignores before second)
    (sym (ap result_ok e) ∙ blocks_taken ignores first before (all_in_order IsSampleAlone recorders in_first are.alone one))
    (runs_alike ignores before.table recorders in_first in_second (kept_of before) are one two)
    (blocks_taken ignores second before (all_in_order IsSampleAlone recorders in_second are.alone two))
