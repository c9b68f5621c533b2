use Rattle.std.proofs.Common.{rules, sym, ap, ◌≡◌, ◌<◌, ◌≤◌, [], length, get_or, map, List, ℕ, arith}
use Rattle.std.specs.Borrow.{Bor}
use Rattle.std.specs.Ordering.{nat_cmp}
use Rattle.std.specs.Cmp.Lexicographic.{nat_list_cmp_total, slice_cmp}
use Rattle.std.specs.FinMap.{nat_cmp-IsAntisymmetric, slice_cmp-IsAntisymmetric}
use Rattle.std.proofs.lemmas.List.{length-map, get_or-map}
use Rattle.dk_forms.specs.Known.Distinct.{put, put_all}
use Rattle.dk_forms.specs.Texts.{texts_state}
use Rattle.dk_forms.proofs.Gathering.{gathered_more, gathered_too_many}
use Rattle.dk_forms.proofs.few.texts.union_values.Goals as goal

within_map : (values : List (Bor (List ℕ))) (i : ℕ) → i < length values → i < length (map (λ (t : Bor (List ℕ)). t.now) values)
within_map values i h = let e : length (map (λ (t : Bor (List ℕ)). t.now) values) ≡ length values = length-map values (λ (t : Bor (List ℕ)). t.now) in omega (arith, h, e)

pub returns-in-None : goal.returns-in-None
returns-in-None c =
    let values = c.args.values.now in
    let i = c.loop-value.value-index in
    let first : Bor (List ℕ) = record { ref_ptr = (0, 0); now = [] } in
    let x : List ℕ = (get_or values i first).now in
    let many : 3 < length (put (slice_cmp nat_cmp) x c.loop-value.all) = search rules in
    sym (ap texts_state (gathered_too_many nat_list_cmp_total (slice_cmp-IsAntisymmetric nat_cmp-IsAntisymmetric) [] 3 (map (λ (t : Bor (List ℕ)). t.now) values) c.loop-value.all
    (put_all (slice_cmp nat_cmp) (map (λ (t : Bor (List ℕ)). t.now) values) []) i x (within_map values i c.loop-value-test.true)
    (sym (get_or-map (λ (t : Bor (List ℕ)). t.now) values i first [] c.loop-value-test.true)) c.loop-value.invariant.1 many))

pub loop-value-preserved : goal.loop-value-preserved
loop-value-preserved c =
    let values = c.args.values.now in
    let i = c.loop-value.value-index in
    let first : Bor (List ℕ) = record { ref_ptr = (0, 0); now = [] } in
    let x : List ℕ = (get_or values i first).now in
    let more = c.in-Some.more in
    let told : (more ≡ put (slice_cmp nat_cmp) x c.loop-value.all) × (length more ≤ 3) = search rules in
    gathered_more nat_list_cmp_total (slice_cmp-IsAntisymmetric nat_cmp-IsAntisymmetric) [] 3 (map (λ (t : Bor (List ℕ)). t.now) values) c.loop-value.all
    (put_all (slice_cmp nat_cmp) (map (λ (t : Bor (List ℕ)). t.now) values) []) i x (within_map values i c.loop-value-test.true)
    (sym (get_or-map (λ (t : Bor (List ℕ)). t.now) values i first [] c.loop-value-test.true)) c.loop-value.invariant.1 more told
