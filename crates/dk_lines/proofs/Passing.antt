-- Lines that are used where they lie are what is left of a file, line by line.
use Rattle.std.proofs.Common.{◌≡◌, ◌≤◌, ◌<◌, ◌+◌, ◌-◌, ℕ, suc, List, [], ◌∷◌, ◌++◌, length, take, drop, map, min, All, Bool, refl, sym, ◌∙◌, ap, arith, length-append, append_assoc, length-take}
use Rattle.std.proofs.Math.Seq.{take-append_seam}
use Rattle.std.proofs.lemmas.List.{length-take-le, drop_at}
use Rattle.std.proofs.lemmas.List.Elements.{All-head, All-tail}
use Rattle.dk_lines.specs.declared.lines.Limits.{Limits}
use Rattle.dk_lines.specs.Cutting.{line_len, line_bytes, line_used, behind_line}
use Rattle.dk_lines.specs.Left.{Left, Next, lined, without_cr}
use Rattle.dk_lines.specs.Passing.{AreLines, HasNoLf, PassesLines, in_front, joined, numbered_lines, ready_of}
use Rattle.dk_lines.specs.Reading.{Reading, room_of}
use Rattle.dk_lines.proofs.Cut.{judged_line, len_lf, len_open, len_other}
use Rattle.dk_lines.proofs.Lined.{step_lf}

no_lf : (l : List ℕ) → HasNoLf l → line_len l ≡ length l
no_lf [] h = refl
no_lf (b ∷ bs) h = len_other b bs (All-head (λ b. b ≡ 10 → ⊥) b bs h) ∙ ap (λ (n : ℕ). suc n) (no_lf bs (All-tail (λ b. b ≡ 10 → ⊥) b bs h))

-- a line in front of its LF and of what follows
front_len : (l rest : List ℕ) → HasNoLf l → line_len (l ++ 10 ∷ rest) ≡ length l
front_len l rest h = len_open l (10 ∷ rest) (no_lf l h) ∙ omega (arith, len_lf 10 rest refl)

front_bytes : (l rest : List ℕ) → HasNoLf l → line_bytes (l ++ 10 ∷ rest) ≡ l
front_bytes l rest h = ap (λ (n : ℕ). take n (l ++ 10 ∷ rest)) (front_len l rest h) ∙ take-append_seam l (10 ∷ rest)

front_used : (l rest : List ℕ) → HasNoLf l → line_used (l ++ 10 ∷ rest) ≡ length l + 1
front_used l rest h = omega (arith, front_len l rest h, length-append l (10 ∷ rest))

front_behind : (l rest : List ℕ) → HasNoLf l → behind_line (l ++ 10 ∷ rest) ≡ rest
front_behind l rest h =
    let apart : l ++ 10 ∷ rest ≡ (l ++ 10 ∷ []) ++ rest = sym (append_assoc l (10 ∷ []) rest) in
    let len : length (l ++ 10 ∷ []) ≡ length l + 1 = omega (arith, length-append l (10 ∷ [])) in
    ap (λ (n : ℕ). drop (n + 1) (l ++ 10 ∷ rest)) (front_len l rest h)
    ∙ ap (λ (xs : List ℕ). drop (length l + 1) xs) apart
    ∙ drop_at (l ++ 10 ∷ []) rest (length l + 1) len

-- a line in front of its LF and of what follows is read
front_step : (limit room n : ℕ) (e : Bool) (l rest : List ℕ) → HasNoLf l → length l ≤ limit → length l + 1 ≤ room
    → lined limit room n e (l ++ 10 ∷ rest) ≡ Next (record { number = n + 1; bytes = without_cr l }) (lined limit (room - (length l + 1)) (n + 1) e rest)
front_step limit room n e l rest h short fits =
    let xs : List ℕ = l ++ 10 ∷ rest in
    let used : line_used xs ≡ length l + 1 = front_used l rest h in
    let len : line_len xs ≡ length l = front_len l rest h in
    let within : line_len xs < length xs = omega (arith, len, length-append l (10 ∷ rest)) in
    step_lf limit room n e xs (line_used xs) within (judged_line limit room (line_len xs) (line_used xs) (omega (arith, len)) (omega (arith, used)))
    ∙ ap (λ (b : List ℕ). Next (record { number = n + 1; bytes = without_cr b }) (lined limit (room - line_used xs) (n + 1) e (behind_line xs))) (front_bytes l rest h)
    ∙ ap (λ (u : ℕ). Next (record { number = n + 1; bytes = without_cr l }) (lined limit (room - u) (n + 1) e (behind_line xs))) used
    ∙ ap (λ (b : List ℕ). Next (record { number = n + 1; bytes = without_cr l }) (lined limit (room - (length l + 1)) (n + 1) e b)) (front_behind l rest h)

-- how many bytes the first line and the others have
joined_len : (l : List ℕ) (ls : List (List ℕ)) → length (joined (l ∷ ls)) ≡ length l + 1 + length (joined ls)
joined_len l ls = omega (arith, length-append (l ++ 10 ∷ []) (joined ls), length-append l (10 ∷ []))

pub count_within : (ls : List (List ℕ)) → length ls ≤ length (joined ls)
count_within [] = omega arith
count_within (l ∷ ls) = omega (arith, joined_len l ls, count_within ls)

passes : (limit room n : ℕ) (e : Bool) (ls : List (List ℕ)) (ys : List ℕ) → All HasNoLf ls → length (joined ls) ≤ limit → length (joined ls) ≤ room
    → lined limit room n e (joined ls ++ ys) ≡ in_front (numbered_lines (n + 1) (map without_cr ls)) (lined limit (room - length (joined ls)) (n + length ls) e ys)
passes limit room n e [] ys apart short fits = ap (λ (k : ℕ). lined limit k n e ys) (omega arith) ∙ ap (λ (k : ℕ). lined limit (room - 0) k e ys) (omega arith)
passes limit room n e (l ∷ ls) ys apart short fits =
    let size : length (joined (l ∷ ls)) ≡ length l + 1 + length (joined ls) = joined_len l ls in
    let cut : joined (l ∷ ls) ++ ys ≡ l ++ 10 ∷ (joined ls ++ ys) = append_assoc (l ++ 10 ∷ []) (joined ls) ys ∙ append_assoc l (10 ∷ []) (joined ls ++ ys) in
    let here : HasNoLf l = All-head HasNoLf l ls apart in
    let behind : All HasNoLf ls = All-tail HasNoLf l ls apart in
    let room_left : room - (length l + 1) - length (joined ls) ≡ room - length (joined (l ∷ ls)) = omega (arith, size) in
    let number : n + 1 + length ls ≡ n + length (l ∷ ls) = omega arith in
    ap (lined limit room n e) cut
    ∙ front_step limit room n e l (joined ls ++ ys) here (omega (arith, size, short)) (omega (arith, size, fits))
    ∙ ap (λ (r : Left). Next (record { number = n + 1; bytes = without_cr l }) r)
    (passes limit (room - (length l + 1)) (n + 1) e ls ys behind (omega (arith, size, short)) (omega (arith, size, fits))
    ∙ ap (λ (k : ℕ). in_front (numbered_lines (n + 1 + 1) (map without_cr ls)) (lined limit k (n + 1 + length ls) e ys)) room_left
    ∙ ap (λ (k : ℕ). in_front (numbered_lines (n + 1 + 1) (map without_cr ls)) (lined limit (room - length (joined (l ∷ ls))) k e ys)) number)

-- bytes within those at hand
pub used_within : (r : Reading) (used : ℕ) → used ≤ length (ready_of r) → (used ≤ r.limits.line) × (used ≤ room_of r) × (used ≤ length r.ahead)
used_within r used h =
    let len = length-take (min r.limits.line (room_of r)) r.ahead in
    (omega (arith, len, h), omega (arith, len, h), omega (arith, len, h))

pub lines_within : (r : Reading) (used count : ℕ) (ls : List (List ℕ)) → used ≤ length (ready_of r) → AreLines ls (take used r.ahead) count → (length (joined ls) ≡ used) × (count ≤ used)
lines_within r used count ls h are =
    let len : length (joined ls) ≡ used = ap length are.all ∙ length-take-le used r.ahead (used_within r used h).2 in
    (len, omega (arith, count_within ls, are.many, len))

pub passes_lines : (old new : Reading) (used count : ℕ) (ls : List (List ℕ)) → used ≤ length (ready_of old) → AreLines ls (take used old.ahead) count
    → new.limits ≡ old.limits → new.number ≡ old.number + count → new.total ≡ old.total + used → PassesLines old ls new
passes_lines old new used count ls h are limits number total = λ e ys.
    let within = used_within old used h in
    let len : length (joined ls) ≡ used = (lines_within old used count ls h are).0 in
    let room : room_of old - length (joined ls) ≡ room_of new = omega (arith, len, total, ap (λ (l : Limits). l.total) limits) in
    let last : old.number + length ls ≡ new.number = omega (arith, number, are.many) in
    passes old.limits.line (room_of old) old.number e ls ys are.apart (omega (arith, len, within.0)) (omega (arith, len, within.1))
    ∙ ap (λ (k : ℕ). in_front (numbered_lines (old.number + 1) (map without_cr ls)) (lined old.limits.line k (old.number + length ls) e ys)) room
    ∙ ap (λ (k : ℕ). in_front (numbered_lines (old.number + 1) (map without_cr ls)) (lined old.limits.line (room_of new) k e ys)) last
    ∙ ap (λ (l : Limits). in_front (numbered_lines (old.number + 1) (map without_cr ls)) (lined l.line (room_of new) new.number e ys)) (sym limits)
