-- Sections of a file whose lines are read one after another.
use Rattle.std.proofs.Common.{◌≡◌, ◌≤◌, ◌<◌, ◌∙◌, ◌+◌, ◌-◌, ◌||◌, ◌++◌, ◌⊎◌, sym, ap, subst, refl, inl, inr, arith, length, map, ℕ, Bool, true, false, cond, List, [], ◌∷◌, append_assoc, length-append, IfSome, Option, Some, None, Result, Ok, Err}
use Rattle.std.proofs.lemmas.List.{append-nil}
use Rattle.dk_base.specs.Reading.{Line, LineFault as Fault, ◌>>=◌}
use Rattle.dk_lines.specs.Answers.{IsNextLine, NextCounts, NextGives}
use Rattle.dk_lines.specs.Left.{Broken, Ends, Left, LongLine, Next, OneLine, TooLong, Piece, is_long, is_over, lined, lined_by, lines_left, pieces, size_of, without_cr}
use Rattle.dk_lines.specs.Reading.{Reading, room_of}
use Rattle.dk_lines.specs.declared.lines.LineFault.{LineFault}
use Rattle.dk_lines.specs.declared.lines.LineFault.TheVariants as fault
use Rattle.std.specs.List.{flat_map}
use Rattle.dk_lines.proofs.Lined.{at_end}
use Rattle.dk_claims.proofs.Sectioning.{claims_are_of_sections}
use Rattle.dk_claims.specs.Claims.{claims_of}
use Rattle.dk_claims.specs.Laws.{WholeFileHasItsClaims}
use Rattle.dk_claims.specs.Reading.{ClaimsGive, IsBroken, IsMade, SectionsGive, lines_in}
use Rattle.dk_claims.specs.Sections.{section_claims, sections_of}
use Rattle.dk_claims.specs.Standing.{StandsFor}
use Rattle.dk_claims.specs.Steps.{Takes, TakesLine}
use Rattle.dk_claims.specs.declared.claims.Claim.{Claim}
use Rattle.dk_claims.specs.declared.sections.Section.{Section}
use Rattle.dk_claims.specs.declared.sections.Sections.{Sections}

-- lines, or a fault
abbrev Found : Type 0
Found = Result (List (List ℕ)) Fault

-- these lines in front of what is found
abbrev behind : List (List ℕ) → Found → Found
behind read found = found >>= λ lines. Ok (read ++ lines)

behind_one : (read : List (List ℕ)) (line : List ℕ) (found : Found) → behind read (found >>= λ lines. Ok (line ∷ lines)) ≡ behind (read ++ line ∷ []) found
behind_one read line (Ok lines) = ap (λ (l : List (List ℕ)). Ok l) (sym (append_assoc read (line ∷ []) lines))
behind_one read line (Err e) = refl

abbrev IsFine : Found → Type 0
IsFine found = (lines : List (List ℕ)) × (found ≡ Ok lines)

-- what is said of a file that is cut off
abbrev IsCut : Reading → List ℕ → List (List ℕ) → Reading → List ℕ → Type 0
IsCut old front read new d =
    (lines_in (lines_left old false (front ++ d)) ≡ behind read (lines_in (lines_left new false d))) ⊎ IsFine (lines_in (lines_left old false (front ++ d)))

-- within a file: the kept stand for the lines that were read
pub record GoesTo (old : Reading) (xs : List ℕ) (kept : Sections) (new : Reading) (left : Option (List ℕ)) : Type 0 where
  pub read : List (List ℕ)
  pub stands : StandsFor kept read
  pub ys : List ℕ
  pub left_is : left ≡ Some ys
  pub front : List ℕ
  pub split : xs ≡ front ++ ys
  pub room : room_of new ≡ room_of old - length front
  pub all : lines_in (lines_left old true xs) ≡ behind read (lines_in (lines_left new true ys))
  pub cut : (d rest : List ℕ) → ys ≡ d ++ rest → IsCut old front read new d

behind_none : (found : Found) → found ≡ behind [] found
behind_none (Ok lines) = refl
behind_none (Err e) = refl

-- in front of the first line
begins : (old : Reading) (xs : List ℕ) (kept : Sections) → StandsFor kept [] → GoesTo old xs kept old (Some xs)
begins old xs kept stands = record {
  read = [];
  stands = stands;
  ys = xs;
  left_is = refl;
  front = [];
  split = refl;
  room = omega arith;
  all = behind_none _;
  cut = λ d rest e. inl (behind_none _);
}

pub all_begin : (old : Reading) (left : Option (List ℕ)) (kept : Sections) → StandsFor kept [] → IfSome left (λ xs. GoesTo old xs kept old left)
all_begin old None kept stands = tt
all_begin old (Some xs) kept stands = begins old xs kept stands

-- what the next line says of what is left
cut_on : (mid new : Reading) (ys zs d rest : List ℕ) (line : Line) → (o : OneLine mid ys line new zs) → zs ≡ d ++ rest → IsCut mid o.front (line.bytes ∷ []) new d
cut_on mid new ys zs d rest line o e = elim (o.cut d rest e) [
  | inl same ↦ inl (ap lines_in same ∙ one (lines_in (lines_left new false d)))
  | inr broken ↦ inr ([], ap lines_in broken.1)
] where
  one : (found : Found) → (found >>= λ lines. Ok (line.bytes ∷ lines)) ≡ behind (line.bytes ∷ []) found
  one (Ok lines) = refl
  one (Err e') = refl

behind_fine : (read : List (List ℕ)) (found : Found) → IsFine found → IsFine (behind read found)
behind_fine read found fine = (read ++ fine.0, ap (behind read) fine.1)

behind_both : (read more : List (List ℕ)) (found : Found) → behind read (behind more found) ≡ behind (read ++ more) found
behind_both read more (Ok lines) = ap (λ (l : List (List ℕ)). Ok l) (sym (append_assoc read more lines))
behind_both read more (Err e) = refl

-- one cut behind another
cuts : (old mid new : Reading) (front more d : List ℕ) (read lines : List (List ℕ)) → IsCut old front read mid (more ++ d) → IsCut mid more lines new d
    → IsCut old (front ++ more) (read ++ lines) new d
cuts old mid new front more d read lines first second =
    subst (λ (l : List ℕ). (lines_in (lines_left old false l) ≡ behind (read ++ lines) (lines_in (lines_left new false d))) ⊎ IsFine (lines_in (lines_left old false l)))
    (sym (append_assoc front more d)) (go first second) where
      go : IsCut old front read mid (more ++ d) → IsCut mid more lines new d
          → (lines_in (lines_left old false (front ++ (more ++ d))) ≡ behind (read ++ lines) (lines_in (lines_left new false d)))
          ⊎ IsFine (lines_in (lines_left old false (front ++ (more ++ d))))
      go (inr fine) s = inr fine
      go (inl e) (inl e') = inl (e ∙ ap (behind read) e' ∙ behind_both read lines _)
      go (inl e) (inr fine) = inr (subst IsFine (sym e) (behind_fine read _ fine))

goes_on : (old mid new : Reading) (xs ys zs : List ℕ) (kept kept' : Sections) (line : Line) (left left' : Option (List ℕ))
    → (g : GoesTo old xs kept mid left) → ys ≡ g.ys → left' ≡ Some zs → OneLine mid ys line new zs
    → ((lines : List (List ℕ)) → StandsFor kept lines → StandsFor kept' (lines ++ line.bytes ∷ [])) → GoesTo old xs kept' new left'
goes_on old mid new xs ys zs kept kept' line left left' g same left_is o stands =
    let split : g.ys ≡ o.front ++ zs = sym same ∙ o.split in
    record {
      read = g.read ++ line.bytes ∷ [];
      stands = stands g.read g.stands;
      ys = zs;
      left_is = left_is;
      front = g.front ++ o.front;
      split = g.split ∙ ap (λ (l : List ℕ). g.front ++ l) split ∙ sym (append_assoc g.front o.front zs);
      room = omega (arith, g.room, o.room, length-append g.front o.front);
      all = g.all ∙ ap (λ (l : List ℕ). behind g.read (lines_in (lines_left mid true l))) (sym same) ∙ ap (λ (l : Left). behind g.read (lines_in l)) o.ended
          ∙ behind_one g.read line.bytes (lines_in (lines_left new true zs));
      cut = λ d rest e. cuts old mid new g.front o.front d g.read (line.bytes ∷ [])
          (g.cut (o.front ++ d) rest (split ∙ ap (λ (l : List ℕ). o.front ++ l) e ∙ sym (append_assoc o.front d rest)))
          (cut_on mid new ys zs d rest line o e);
    }

step_by : (old mid new : Reading) (xs : List ℕ) (kept kept' : Sections) (left left' : Option (List ℕ)) (answer : Result (Option Line) LineFault)
    → (g : GoesTo old xs kept mid left) → NextGives mid g.ys answer new left' → Takes kept answer (Ok true) kept' → GoesTo old xs kept' new left'
step_by old mid new xs kept kept' left left' (Ok (Some line)) g gives takes =
    goes_on old mid new xs g.ys gives.0 kept kept' line left left' g refl gives.1 gives.2 takes
step_by old mid new xs kept kept' left left' (Ok None) g gives takes = absurd takes
step_by old mid new xs kept kept' left left' (Err e) g gives takes = absurd takes

-- what is said of what was left
gives_at : (mid new : Reading) (left left' : Option (List ℕ)) (answer : Result (Option Line) LineFault) (ys : List ℕ) → left ≡ Some ys → IsNextLine mid left answer new left'
    → NextGives mid ys answer new left'
gives_at mid new left left' answer ys is next = subst (λ (o : Option (List ℕ)). IfSome o (λ ys'. NextGives mid ys' answer new left')) is next.gives

pub steps : (old mid new : Reading) (before left left' : Option (List ℕ)) (kept kept' : Sections) → IfSome before (λ xs. GoesTo old xs kept mid left)
    → TakesLine kept mid left (Ok true) kept' new left' → IfSome before (λ xs. GoesTo old xs kept' new left')
steps old mid new None left left' kept kept' goes t = tt
steps old mid new (Some xs) left left' kept kept' goes t =
    step_by old mid new xs kept kept' left left' t.answer goes (gives_at mid new left left' t.answer goes.ys goes.left_is t.is_next) t.takes

-- ---- the file's end
nothing_more : (read : List (List ℕ)) (r : Reading) → behind read (lines_in (lines_left r true [])) ≡ Ok read
nothing_more read r = ap (λ (l : Left). behind read (lines_in l)) (at_end r) ∙ ap (λ (l : List (List ℕ)). Ok l) (append-nil read)

abbrev sections_found : Found → Result (List Section) Fault
sections_found found = found >>= λ lines. Ok (sections_of lines)

room_stays : (mid new : Reading) → new.limits ≡ mid.limits → new.total ≡ mid.total → room_of new ≡ room_of mid
room_stays mid new limits total = omega (arith, ap (λ l. l.total) limits, total)

ends_by : (old mid new : Reading) (xs : List ℕ) (kept kept' : Sections) (left left' : Option (List ℕ)) (answer : Result (Option Line) LineFault)
    (found : List Section) → (g : GoesTo old xs kept mid left) → IsNextLine mid left answer new left' → NextGives mid g.ys answer new left'
    → Takes kept answer (Ok false) kept' → ((lines : List (List ℕ)) → StandsFor kept' lines → found ≡ sections_of lines) → IsMade sections_of old xs found new left'
ends_by old mid new xs kept kept' left left' (Ok (Some line)) found g next gives takes are = absurd takes
ends_by old mid new xs kept kept' left left' (Err e) found g next gives takes are = absurd takes
ends_by old mid new xs kept kept' left left' (Ok None) found g next gives takes are =
    let lines : lines_in (lines_left old true xs) ≡ Ok g.read =
    g.all ∙ ap (λ (l : List ℕ). behind g.read (lines_in (lines_left mid true l))) gives.0 ∙ nothing_more g.read mid in
    let sectioned : found ≡ sections_of g.read = are g.read (subst (λ (c : Sections). StandsFor c g.read) (sym takes) g.stands) in
    let size : length xs ≡ length g.front = ap length g.split ∙ ap (λ (l : List ℕ). length (g.front ++ l)) gives.0 ∙ ap length (append-nil g.front) in
    record {
      all = ap sections_found lines ∙ ap (λ (l : List Section). Ok l) (sym sectioned);
      nothing_left = gives.1;
      room = room_stays mid new next.limits_stay next.counts.1 ∙ g.room ∙ ap (λ (n : ℕ). room_of old - n) (sym size);
    }

pub all_end : (old mid new : Reading) (before left left' : Option (List ℕ)) (kept kept' : Sections) (found : List Section)
    → IfSome before (λ xs. GoesTo old xs kept mid left) → TakesLine kept mid left (Ok false) kept' new left'
    → ((lines : List (List ℕ)) → StandsFor kept' lines → found ≡ sections_of lines) → IfSome before (λ xs. SectionsGive old xs (Ok found) new left')
all_end old mid new None left left' kept kept' found goes t are = tt
all_end old mid new (Some xs) left left' kept kept' found goes t are =
    ends_by old mid new xs kept kept' left left' t.answer found goes t.is_next (gives_at mid new left left' t.answer goes.ys goes.left_is t.is_next) t.takes are

-- ---- faults
broken_by : (old mid : Reading) (xs : List ℕ) (kept : Sections) (left left' : Option (List ℕ)) → (g : GoesTo old xs kept mid left)
    → (front rest : List ℕ) → g.ys ≡ front ++ rest → left' ≡ Some rest → lines_left mid false front ≡ Ends Broken → IsBroken sections_of old xs left'
broken_by old mid xs kept left left' g front rest split left_is broken =
    let fine : IsFine (lines_in (lines_left old false (g.front ++ front))) = go (g.cut front rest split) in
    record {
      front = g.front ++ front;
      rest = rest;
      left_is = left_is;
      split = g.split ∙ ap (λ (l : List ℕ). g.front ++ l) split ∙ sym (append_assoc g.front front rest);
      made = sections_of fine.0;
      all = ap sections_found fine.1;
    } where
      go : IsCut old g.front g.read mid front → IsFine (lines_in (lines_left old false (g.front ++ front)))
      go (inr fine) = fine
      go (inl e) = (g.read ++ [], e ∙ ap (λ (l : Left). behind g.read (lines_in l)) broken)

faulty_by : (old mid new : Reading) (xs : List ℕ) (kept kept' : Sections) (left left' : Option (List ℕ)) (answer : Result (Option Line) LineFault) (e : LineFault)
    → (g : GoesTo old xs kept mid left) → NextGives mid g.ys answer new left' → Takes kept answer (Err e) kept' → SectionsGive old xs (Err e) new left'
faulty_by old mid new xs kept kept' left left' (Ok (Some line)) fault.NoMemory g gives takes = tt
faulty_by old mid new xs kept kept' left left' (Ok (Some line)) fault.Read g gives takes = absurd takes
faulty_by old mid new xs kept kept' left left' (Ok (Some line)) (fault.LongLine n) g gives takes = absurd takes
faulty_by old mid new xs kept kept' left left' (Ok (Some line)) (fault.TooLong n) g gives takes = absurd takes
faulty_by old mid new xs kept kept' left left' (Ok None) e g gives takes = absurd takes
faulty_by old mid new xs kept kept' left left' (Err f) e g gives takes =
    subst (λ (x : LineFault). SectionsGive old xs (Err x) new left') takes (own f gives) where
      own : (f : LineFault) → NextGives mid g.ys (Err f) new left' → SectionsGive old xs (Err f) new left'
      own fault.Read (front, (rest, split, left_is, broken, total)) = broken_by old mid xs kept left left' g front rest split left_is broken
      own (fault.LongLine n) ends = ap sections_found (g.all ∙ ap (λ (l : Left). behind g.read (lines_in l)) (ends true))
      own (fault.TooLong n) ends = ap sections_found (g.all ∙ ap (λ (l : Left). behind g.read (lines_in l)) (ends true))
      own fault.NoMemory ends = tt

pub all_faulty : (old mid new : Reading) (before left left' : Option (List ℕ)) (kept kept' : Sections) (e : LineFault)
    → IfSome before (λ xs. GoesTo old xs kept mid left) → TakesLine kept mid left (Err e) kept' new left'
    → IfSome before (λ xs. SectionsGive old xs (Err e) new left')
all_faulty old mid new None left left' kept kept' e goes t = tt
all_faulty old mid new (Some xs) left left' kept kept' e goes t =
    faulty_by old mid new xs kept kept' left left' t.answer e goes (gives_at mid new left left' t.answer goes.ys goes.left_is t.is_next) t.takes

-- ---- the lines of a whole file
lines_by : (limit room n : ℕ) (ps : List Piece) (lines : List (List ℕ)) → lines_in (lined_by limit room true n ps) ≡ Ok lines
    → lines ≡ map (λ (p : Piece). without_cr p.bytes) ps
lines_by limit room n [] lines e = cc
lines_by limit room n (p ∷ ps) lines e =
    go (is_long limit room p) (is_over room p) p.has_lf (λ rest. lines_by limit (room - size_of p) (n + 1) ps rest) e where
      left : Left
      left = lined_by limit (room - size_of p) true (n + 1) ps

      all : List (List ℕ)
      all = map (λ (q : Piece). without_cr q.bytes) ps

      one : (found : Found) → ((rest : List (List ℕ)) → found ≡ Ok rest → rest ≡ all)
          → (found >>= λ rest. Ok (without_cr p.bytes ∷ rest)) ≡ Ok lines → lines ≡ without_cr p.bytes ∷ all
      one (Ok rest) h s =
          let here : without_cr p.bytes ∷ rest ≡ lines = cc in
          sym here ∙ ap (λ (l : List (List ℕ)). without_cr p.bytes ∷ l) (h rest refl)
      one (Err x) h s = absurd (cc (s))

      go : (a b c : Bool) → ((rest : List (List ℕ)) → lines_in left ≡ Ok rest → rest ≡ all)
          → lines_in (cond a (Ends (LongLine (n + 1))) (cond b (Ends (TooLong (n + 1)))
          (cond (c || true) (Next (record { number = n + 1; bytes = without_cr p.bytes }) left) (Ends Broken)))) ≡ Ok lines
          → lines ≡ without_cr p.bytes ∷ all
      go true b c h s = absurd (cc (s))
      go false true c h s = absurd (cc (s))
      go false false true h s = one _ h s
      go false false false h s = one _ h s

abbrev claims_found : Found → Result (List Claim) Fault
claims_found found = found >>= λ lines. Ok (claims_of lines)

claims_by : (found : Found) (claims : List Claim) → claims_found found ≡ Ok claims → (lines : List (List ℕ)) × (found ≡ Ok lines) × (claims ≡ claims_of lines)
claims_by (Ok lines) claims e = (lines, refl, cc)
claims_by (Err x) claims e = absurd (cc (e))

pub whole_file : WholeFileHasItsClaims
unfolding lined
whole_file limit room n bytes claims e =
    let found = claims_by (lines_in (lined_by limit room true n (pieces bytes))) claims e in
    found.2 ∙ ap claims_of (lines_by limit room n (pieces bytes) found.0 found.1)

-- ---- the claims of sections
sections_by : (found : Found) (sections : List Section) → sections_found found ≡ Ok sections → (lines : List (List ℕ)) × (found ≡ Ok lines) × (sections ≡ sections_of lines)
sections_by (Ok lines) sections e = (lines, refl, cc)
sections_by (Err x) sections e = absurd (cc (e))

fault_by : (found : Found) (x : Fault) → sections_found found ≡ Err x → found ≡ Err x
fault_by (Ok lines) x e = absurd (cc (e))
fault_by (Err y) x e = cc

claims_made : (old : Reading) (xs : List ℕ) (sections : List Section) (claims : List Claim) (new : Reading) (left : Option (List ℕ))
    → IsMade sections_of old xs sections new left → claims ≡ flat_map section_claims sections → IsMade claims_of old xs claims new left
claims_made old xs sections claims new left made is =
    let found = sections_by (lines_in (lines_left old true xs)) sections made.all in
    let same : claims_of found.0 ≡ claims = claims_are_of_sections found.0 ∙ ap (flat_map section_claims) (sym found.2) ∙ sym is in
    record {
      all = ap claims_found found.1 ∙ ap (λ (l : List Claim). Ok l) same;
      nothing_left = made.nothing_left;
      room = made.room;
    }

claims_faulty : (old : Reading) (xs : List ℕ) (e : LineFault) (new : Reading) (left : Option (List ℕ)) → SectionsGive old xs (Err e) new left
    → ClaimsGive old xs (Err e) new left
claims_faulty old xs fault.Read new left broken =
    let found = sections_by (lines_in (lines_left old false broken.front)) broken.made broken.all in
    record {
      front = broken.front;
      rest = broken.rest;
      left_is = broken.left_is;
      split = broken.split;
      made = claims_of found.0;
      all = ap claims_found found.1;
    }
claims_faulty old xs (fault.LongLine n) new left e = ap claims_found (fault_by _ _ e)
claims_faulty old xs (fault.TooLong n) new left e = ap claims_found (fault_by _ _ e)
claims_faulty old xs fault.NoMemory new left e = tt

pub claims_given : (old : Reading) (before : Option (List ℕ)) (sections : List Section) (claims : List Claim) (new : Reading) (left : Option (List ℕ))
    → IfSome before (λ xs. SectionsGive old xs (Ok sections) new left) → claims ≡ flat_map section_claims sections
    → IfSome before (λ xs. ClaimsGive old xs (Ok claims) new left)
claims_given old None sections claims new left made is = tt
claims_given old (Some xs) sections claims new left made is = claims_made old xs sections claims new left made is

pub claims_refused : (old : Reading) (before : Option (List ℕ)) (e : LineFault) (new : Reading) (left : Option (List ℕ))
    → IfSome before (λ xs. SectionsGive old xs (Err e) new left) → IfSome before (λ xs. ClaimsGive old xs (Err e) new left)
claims_refused old None e new left faulty = tt
claims_refused old (Some xs) e new left faulty = claims_faulty old xs e new left faulty

-- ---- numbers
-- a line more was taken
pub record Grew (mid new : Reading) : Type 0 where
  pub started : new.is_started ≡ true
  pub limits : new.limits ≡ mid.limits
  pub more : mid.total < new.total
  pub within : new.total ≤ mid.limits.total

pub grew : (mid new : Reading) (left left' : Option (List ℕ)) (kept kept' : Sections) → TakesLine kept mid left (Ok true) kept' new left' → Grew mid new
grew mid new left left' kept kept' t = go t.answer t.is_next.counts t.takes where
  go : (answer : Result (Option Line) LineFault) → NextCounts mid answer new → Takes kept answer (Ok true) kept' → Grew mid new
  go (Ok (Some line)) counts takes = record { started = counts.2; limits = t.is_next.limits_stay; more = counts.4; within = counts.5 }
  go (Ok None) counts takes = absurd takes
  go (Err e) counts takes = absurd takes

-- ---- behind the last answer
pub no_more : (mid new : Reading) (left left' : Option (List ℕ)) (kept kept' : Sections) → TakesLine kept mid left (Ok false) kept' new left'
    → new.is_started ≡ false
no_more mid new left left' kept kept' t = go t.answer t.is_next.counts t.takes where
  go : (answer : Result (Option Line) LineFault) → NextCounts mid answer new → Takes kept answer (Ok false) kept' → new.is_started ≡ false
  go (Ok (Some line)) counts takes = absurd takes
  go (Ok None) counts takes = counts.0
  go (Err e) counts takes = absurd takes

ended_by : (mid new : Reading) (e : LineFault) → NextCounts mid (Err e) new → new.is_started ≡ false
ended_by mid new fault.Read counts = counts.0
ended_by mid new (fault.LongLine n) counts = counts.1
ended_by mid new (fault.TooLong n) counts = counts.1
ended_by mid new fault.NoMemory counts = counts.0

-- only of want of memory it isn't known whether a line was read
pub no_more_behind : (mid new : Reading) (left left' : Option (List ℕ)) (kept kept' : Sections) (e : LineFault)
    → TakesLine kept mid left (Err e) kept' new left' → ¬ (e ≡ fault.NoMemory) → new.is_started ≡ false
no_more_behind mid new left left' kept kept' e t other = go t.answer e t.is_next.counts t.takes other where
  go : (answer : Result (Option Line) LineFault) (e : LineFault) → NextCounts mid answer new → Takes kept answer (Err e) kept' → ¬ (e ≡ fault.NoMemory)
      → new.is_started ≡ false
  go (Ok (Some line)) fault.NoMemory counts takes other = absurd (other refl)
  go (Ok (Some line)) fault.Read counts takes other = absurd takes
  go (Ok (Some line)) (fault.LongLine n) counts takes other = absurd takes
  go (Ok (Some line)) (fault.TooLong n) counts takes other = absurd takes
  go (Ok None) e counts takes other = absurd takes
  go (Err f) e counts takes other = ended_by mid new f counts
