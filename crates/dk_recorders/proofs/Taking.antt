-- What records do, one after another: to the own samples, and to the calls of their file.
use Rattle.std.proofs.Common.{◌≡◌, ◌<◌, ◌≤◌, ◌&&◌, ◌==◌, inl, inr, ℕ, Bool, true, false, List, [], ◌∷◌, ◌++◌, length, get_or, is_some, nat_lt, Option, Some, None, option_and_then, Result, Ok, Err, IsPermutation, refl, sym, ap, ◌∙◌, subst, append_assoc, append-nil, arith, if◌then◌else◌}
use Rattle.std.proofs.lemmas.Bool.{cases_eq, cases_lt}
use Rattle.std.proofs.lemmas.List.{get_or-set_other, length-set, set_past}
use Rattle.std.proofs.lemmas.Grind.{get_or-set_at}
use Rattle.std.proofs.lemmas.Bool.Decides.{nat_tests}
use Rattle.std.proofs.lemmas.List.Sorted.{IsPermutation-append_comm, IsPermutation-append_left, IsPermutation-append_right, IsPermutation-refl, IsPermutation-sym, IsPermutation-trans}
use Rattle.std.specs.Option.{option_map_or}
use Rattle.dk_base.specs.Reading.{LineFault, ◌>>=◌}
use Rattle.dk_base.specs.declared.values.Value.{Value}
use Rattle.dk_base.specs.declared.why.Why.TheVariants.{UnmatchedExit}
use Rattle.dk_decl.specs.Outcomes.{or_refused}
use Rattle.dk_points.specs.Table.{Point}
use Rattle.dk_points.specs.Vars.{entry_of}
use Rattle.dk_trace.specs.Records.{Sample}
use Rattle.dk_calls.specs.Records.{call_of, values_at_exit, with_entry}
use Rattle.dk_calls.specs.Waiting.{Call, Entry, entry_of_call, other}
use Rattle.dk_blocks.specs.History.{base_values, own_samples_with}
use Rattle.dk_turns.specs.Blocks.{Block}
use Rattle.dk_recorders.specs.Blocks.{HasNonce, ShareNoNonce, call_in, sample_in}
use Rattle.dk_recorders.proofs.Orders.{Both, run}
use Rattle.dk_recorders.proofs.Queues.{SameQueues, behind_alike, exchanged, taken_alike, taken_anyway}

-- own samples, and the records of the file, the latest first
pub record Kept : Type 0 where
  pub own : List (List (List Value))
  pub calls : List Call

-- The same number of points with the same samples in any order, and the same entries of each method and nonce wait.
pub record Like (k j : Kept) : Type 0 where
  pub many : length j.own ≡ length k.own
  pub own : (p : ℕ) → IsPermutation (get_or k.own p []) (get_or j.own p [])
  pub queues : SameQueues k.calls j.calls

pub like_refl : (k : Kept) → Like k k
like_refl k = record { many = refl; own = λ p. IsPermutation-refl (get_or k.own p []); queues = λ p n. refl }

pub like_sym : (k j : Kept) → Like k j → Like j k
like_sym k j a = record {
  many = sym a.many;
  own = λ p. IsPermutation-sym (get_or k.own p []) (get_or j.own p []) (a.own p);
  queues = λ p n. sym (a.queues p n);
}

pub like_trans : (k j i : Kept) → Like k j → Like j i → Like k i
like_trans k j i a b = record {
  many = b.many ∙ a.many;
  own = λ p. IsPermutation-trans (get_or k.own p []) (get_or j.own p []) (get_or i.own p []) (a.own p) (b.own p);
  queues = λ p n. a.queues p n ∙ b.queues p n;
}

-- ---- one sample more
-- what a point has more
abbrev more_at : ℕ → ℕ → ℕ → List Value → List (List Value)
more_at many p q values = if p == q && nat_lt q many then values ∷ [] else []

own_with : (own : List (List (List Value))) (p q : ℕ) (values : List Value)
    → get_or (own_samples_with own p values) q [] ≡ get_or own q [] ++ more_at (length own) p q values
own_with own p q values = elim (cases_eq p q) [
  | inl e ↦ elim (cases_lt q (length own)) [
    | inl lt ↦
        let here : (p == q && nat_lt q (length own)) ≡ true = grind (arith, nat_tests) in
        let within : p < length own = omega arith in
        get_or-set_at own p q (get_or own p [] ++ values ∷ []) [] (sym e) within
        ∙ ap (λ (r : ℕ). get_or own r [] ++ values ∷ []) e
        ∙ sym (ap (λ (b : Bool). get_or own q [] ++ (if b then values ∷ [] else [])) here)
    | inr ge ↦
        let past : (p == q && nat_lt q (length own)) ≡ false = grind (arith, nat_tests) in
        let behind : length own ≤ p = omega arith in
        ap (λ (l : List (List (List Value))). get_or l q []) (set_past own p (get_or own p [] ++ values ∷ []) behind)
        ∙ sym (append-nil (get_or own q []))
        ∙ sym (ap (λ (b : Bool). get_or own q [] ++ (if b then values ∷ [] else [])) past)
  ]
  | inr n ↦
      let other : (p == q && nat_lt q (length own)) ≡ false = grind (arith, nat_tests) in
      get_or-set_other own p q (get_or own p [] ++ values ∷ []) [] (λ e. n (sym e))
      ∙ sym (append-nil (get_or own q []))
      ∙ sym (ap (λ (b : Bool). get_or own q [] ++ (if b then values ∷ [] else [])) other)
]

more_alike : (own others : List (List (List Value))) (p : ℕ) (values : List Value) → length others ≡ length own
    → ((q : ℕ) → IsPermutation (get_or own q []) (get_or others q []))
    → (q : ℕ) → IsPermutation (get_or (own_samples_with own p values) q []) (get_or (own_samples_with others p values) q [])
more_alike own others p values many same q =
    subst (λ (l : List (List Value)). IsPermutation l (get_or (own_samples_with others p values) q [])) (sym (own_with own p q values))
    (subst (λ (l : List (List Value)). IsPermutation (get_or own q [] ++ more_at (length own) p q values) l) (sym (own_with others p q values))
    (subst (λ (n : ℕ). IsPermutation (get_or own q [] ++ more_at (length own) p q values) (get_or others q [] ++ more_at n p q values)) (sym many)
    (IsPermutation-append_left (more_at (length own) p q values) (get_or own q []) (get_or others q []) (same q))))

-- two samples more
with_both : (own : List (List (List Value))) (p r q : ℕ) (values others : List Value)
    → get_or (own_samples_with (own_samples_with own p values) r others) q []
    ≡ get_or own q [] ++ (more_at (length own) p q values ++ more_at (length own) r q others)
with_both own p r q values others =
    own_with (own_samples_with own p values) r q others
    ∙ ap (λ (n : ℕ). get_or (own_samples_with own p values) q [] ++ more_at n r q others) (length-set own p (get_or own p [] ++ values ∷ []))
    ∙ ap (λ (l : List (List Value)). l ++ more_at (length own) r q others) (own_with own p q values)
    ∙ append_assoc (get_or own q []) (more_at (length own) p q values) (more_at (length own) r q others)

either_first : (own : List (List (List Value))) (p r : ℕ) (values others : List Value) (q : ℕ)
    → IsPermutation (get_or (own_samples_with (own_samples_with own p values) r others) q [])
    (get_or (own_samples_with (own_samples_with own r others) p values) q [])
either_first own p r values others q =
    let one : List (List Value) = more_at (length own) p q values in
    let two : List (List Value) = more_at (length own) r q others in
    subst (λ (l : List (List Value)). IsPermutation l (get_or (own_samples_with (own_samples_with own r others) p values) q [])) (sym (with_both own p r q values others))
    (subst (λ (l : List (List Value)). IsPermutation (get_or own q [] ++ (one ++ two)) l) (sym (with_both own r p q others values))
    (IsPermutation-append_right (get_or own q []) (one ++ two) (two ++ one) (IsPermutation-append_comm one two)))

-- ---- a record
-- with the values of a record's base variables
abbrev with_sample : List Point → Kept → Sample → List Value → Kept
with_sample ps k s values = record { own = own_samples_with k.own s.point values; calls = call_of ps s ∷ k.calls }

-- with them, if it has them; else it is refused, or changes nothing where exits without an entry are left out
abbrev pub took : Bool → List Point → Kept → Sample → Result (List Value) LineFault → Option Kept
took ignores ps k s (Ok values) = Some (with_sample ps k s values)
took ignores ps k s (Err unmatched) = if ignores then Some k else None

abbrev pub take_sample : Bool → List Point → Kept → Sample → Option Kept
take_sample ignores ps k s = took ignores ps k s (base_values ps s k.calls)

-- what a sample block does
abbrev pub step : Bool → List Point → Kept → Block → Option Kept
step ignores ps k b = option_and_then (take_sample ignores ps k) (sample_in ps b.body)

base_by : (ps : List Point) (s : Sample) (calls others : List Call) → entry_of_call (call_of ps s) calls ≡ entry_of_call (call_of ps s) others
    → base_values ps s calls ≡ base_values ps s others
unfolding base_values values_at_exit
base_by ps s calls others same =
    ap (λ (o : Option Entry). if is_some (entry_of ps s.point) then (or_refused UnmatchedExit s.line o >>= λ w. Ok (with_entry ps s w)) else Ok s.values) same

pub step_alike : (ignores : Bool) (ps : List Point) (k j : Kept) (b : Block) → Like k j → HasNonce (call_in ps b)
    → Both Like (step ignores ps k b) (step ignores ps j b)
step_alike ignores ps k j b like has = by (sample_in ps b.body) has
  where
    left_out : (i : Bool) → Both Like (if i then Some k else None) (if i then Some j else None)
    left_out true = like
    left_out false = tt

    taken : (s : Sample) → HasNonce (call_of ps s) → (r : Result (List Value) LineFault) → Both Like (took ignores ps k s r) (took ignores ps j s r)
    taken s nonce (Err e) = left_out ignores
    taken s nonce (Ok values) = record {
      many = length-set j.own s.point (get_or j.own s.point [] ++ values ∷ []) ∙ like.many ∙ sym (length-set k.own s.point (get_or k.own s.point [] ++ values ∷ []));
      own = more_alike k.own j.own s.point values like.many like.own;
      queues = behind_alike (call_of ps s) k.calls j.calls nonce like.queues;
    }

    by : (o : Option Sample) → HasNonce (option_map_or (call_of ps) o other)
        → Both Like (option_and_then (take_sample ignores ps k) o) (option_and_then (take_sample ignores ps j) o)
    by None nonce = tt
    by (Some s) nonce =
        subst (λ (r : Result (List Value) LineFault). Both Like (took ignores ps k s (base_values ps s k.calls)) (took ignores ps j s r))
        (base_by ps s k.calls j.calls (taken_alike (call_of ps s) k.calls j.calls nonce like.queues))
        (taken s nonce (base_values ps s k.calls))

-- ---- two records of different recorders
-- one after the other
abbrev two : Bool → List Point → Kept → Option Sample → Option Sample → Option Kept
two ignores ps k o u = option_and_then (λ j. option_and_then (λ i. Some i) (option_and_then (take_sample ignores ps j) u)) (option_and_then (take_sample ignores ps k) o)

none_behind : (o : Option Kept) → Both Like None (option_and_then (λ (j : Kept). None) o)
none_behind None = tt
none_behind (Some j) = tt

none_before : (o : Option Kept) → Both Like (option_and_then (λ (j : Kept). None) o) None
none_before None = tt
none_before (Some j) = tt

-- a record behind another, where its base variables have these values
abbrev behind : Bool → List Point → Sample → Result (List Value) LineFault → Kept → Option Kept
behind ignores ps u r j = option_and_then (λ i. Some i) (took ignores ps j u r)

-- a record has the same values behind one that lets its entry alone
same_behind : (ignores : Bool) (ps : List Point) (k : Kept) (s u : Sample) → base_values ps u (call_of ps s ∷ k.calls) ≡ base_values ps u k.calls
    → (r : Result (List Value) LineFault)
    → option_and_then (λ j. behind ignores ps u (base_values ps u j.calls) j) (took ignores ps k s r)
    ≡ option_and_then (behind ignores ps u (base_values ps u k.calls)) (took ignores ps k s r)
same_behind ignores ps k s u same (Ok x) = ap (λ (r : Result (List Value) LineFault). behind ignores ps u r (with_sample ps k s x)) same
same_behind true ps k s u same (Err e) = refl
same_behind false ps k s u same (Err e) = refl

module _ (ps : List Point) (k : Kept) (s u : Sample) (has_s : HasNonce (call_of ps s)) (has_u : HasNonce (call_of ps u))
    (apart : ShareNoNonce (call_of ps s) (call_of ps u)) where
  both_taken : (x y : List Value) → Like (with_sample ps (with_sample ps k s x) u y) (with_sample ps (with_sample ps k u y) s x)
  both_taken x y = record {
    many =
        length-set (own_samples_with k.own u.point y) s.point (get_or (own_samples_with k.own u.point y) s.point [] ++ x ∷ [])
        ∙ length-set k.own u.point (get_or k.own u.point [] ++ y ∷ [])
        ∙ sym (length-set k.own s.point (get_or k.own s.point [] ++ x ∷ []))
        ∙ sym (length-set (own_samples_with k.own s.point x) u.point (get_or (own_samples_with k.own s.point x) u.point [] ++ y ∷ []));
    own = either_first k.own s.point u.point x y;
    queues = exchanged (call_of ps s) (call_of ps u) k.calls has_s has_u apart;
  }

  -- each is taken, or left out, or refused, whichever comes first
  by_values : (ignores : Bool) (r q : Result (List Value) LineFault)
      → Both Like (option_and_then (behind ignores ps u q) (took ignores ps k s r)) (option_and_then (behind ignores ps s r) (took ignores ps k u q))
  by_values ignores (Ok x) (Ok y) = both_taken x y
  by_values true (Ok x) (Err d) = like_refl (with_sample ps k s x)
  by_values false (Ok x) (Err d) = tt
  by_values true (Err e) (Ok y) = like_refl (with_sample ps k u y)
  by_values false (Err e) (Ok y) = tt
  by_values true (Err e) (Err d) = like_refl k
  by_values false (Err e) (Err d) = tt

  either_way : (ignores : Bool) → ShareNoNonce (call_of ps u) (call_of ps s) → Both Like (two ignores ps k (Some s) (Some u)) (two ignores ps k (Some u) (Some s))
  either_way ignores back =
      let behind_s : base_values ps u (call_of ps s ∷ k.calls) ≡ base_values ps u k.calls =
      base_by ps u (call_of ps s ∷ k.calls) k.calls (taken_anyway (call_of ps u) (call_of ps s) k.calls has_u has_s back) in
      let behind_u : base_values ps s (call_of ps u ∷ k.calls) ≡ base_values ps s k.calls =
      base_by ps s (call_of ps u ∷ k.calls) k.calls (taken_anyway (call_of ps s) (call_of ps u) k.calls has_s has_u apart) in
      subst (λ (o : Option Kept). Both Like o (two ignores ps k (Some u) (Some s))) (sym (same_behind ignores ps k s u behind_s (base_values ps s k.calls)))
      (subst (Both Like (option_and_then (behind ignores ps u (base_values ps u k.calls)) (take_sample ignores ps k s)))
      (sym (same_behind ignores ps k u s behind_u (base_values ps u k.calls)))
      (by_values ignores (base_values ps s k.calls) (base_values ps u k.calls)))

pub step_exchanged : (ignores : Bool) (ps : List Point) (k : Kept) (a b : Block) → HasNonce (call_in ps a) → HasNonce (call_in ps b)
    → ShareNoNonce (call_in ps a) (call_in ps b) → Both Like (run (step ignores ps) k (a ∷ b ∷ [])) (run (step ignores ps) k (b ∷ a ∷ []))
step_exchanged ignores ps k a b has_a has_b apart = by (sample_in ps a.body) (sample_in ps b.body) has_a has_b apart
  where
    by : (o u : Option Sample) → HasNonce (option_map_or (call_of ps) o other) → HasNonce (option_map_or (call_of ps) u other)
        → ShareNoNonce (option_map_or (call_of ps) o other) (option_map_or (call_of ps) u other) → Both Like (two ignores ps k o u) (two ignores ps k u o)
    by None None has_o has_u away = tt
    by None (Some u) has_o has_u away = none_behind (take_sample ignores ps k u)
    by (Some s) None has_o has_u away = none_before (take_sample ignores ps k s)
    by (Some s) (Some u) has_o has_u away = either_way ps k s u has_o has_u away ignores (λ key e f. away key f e)
