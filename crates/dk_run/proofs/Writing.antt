-- Writing texts one behind another.
use Rattle.std.proofs.Common.{◌≡◌, ◌≤◌, ◌<◌, ◌+◌, ℕ, zero, suc, List, [], ◌∷◌, ◌++◌, length, take, drop, Option, Some, None, Result, Ok, Err, refl, sym, ◌∙◌, ap, subst, arith, append_assoc, length-append}
use Rattle.std.proofs.Math.Seq.{take-append-add}
use Rattle.std.proofs.lemmas.Grind.{flat_map-append}
use Rattle.std.proofs.lemmas.List.{append-nil, length-take, take-append-drop, take-append-le, take_all}
use Rattle.std.specs.Io.{StartsWith}
use Rattle.std.specs.Io.KnownBytes.{append_known}
use Rattle.std.specs.List.{enumerate_from, flat_map}
use Rattle.dk_blocks.specs.History.{History}
use Rattle.dk_io.specs.Outside.{Rose}
use Rattle.dk_io.specs.Streams.{Texts, with_bytes}
use Rattle.dk_io.specs.declared.outside.Stream.{Stream}
use Rattle.dk_io.specs.declared.outside.Stream.TheVariants.{Report, Messages, State}
use Rattle.dk_program.specs.Telling.{CutsText, HaltHasCause}
use Rattle.dk_run.specs.Telling.{CutOff, TellsOutcome, ToldWhole}
use Rattle.dk_program.specs.declared.reporting.Halt.{Halt}
use Rattle.dk_program.specs.declared.reporting.Halt.TheVariants.{Write, NoMemory}

-- ---- streams
known_more : (known : Option (List ℕ)) (a b : List ℕ) → append_known (append_known known a) b ≡ append_known known (a ++ b)
known_more None a b = refl
known_more (Some xs) a b = ap (λ (l : List ℕ). Some l) (append_assoc xs a b)

pub added_more : (old : Texts) (stream : Stream) (a b : List ℕ) → with_bytes (with_bytes old stream a) stream b ≡ with_bytes old stream (a ++ b)
added_more old Report a b = ap (λ (k : Option (List ℕ)). record old { report = k }) (known_more old.report a b)
added_more old Messages a b = ap (λ (k : Option (List ℕ)). record old { messages = k }) (known_more old.messages a b)
added_more old State a b = ap (λ (k : Option (List ℕ)). record old { state = k }) (known_more old.state a b)

pub known_nothing : (known : Option (List ℕ)) → append_known known [] ≡ known
known_nothing None = refl
known_nothing (Some xs) = ap (λ (l : List ℕ). Some l) (append-nil xs)

pub added_nothing : (old : Texts) (stream : Stream) → with_bytes old stream [] ≡ old
added_nothing old Report = ap (λ (k : Option (List ℕ)). record old { report = k }) (known_nothing old.report)
added_nothing old Messages = ap (λ (k : Option (List ℕ)). record old { messages = k }) (known_nothing old.messages)
added_nothing old State = ap (λ (k : Option (List ℕ)). record old { state = k }) (known_nothing old.state)

-- ---- fronts
pub front_more : (a b front : List ℕ) → StartsWith a front → StartsWith (a ++ b) front
front_more a b front e =
    let short : length front ≤ length a = omega (arith, ap length e, length-take (length front) a) in
    take-append-le (length front) a b short ∙ e

pub front_behind : (a b front : List ℕ) → StartsWith b front → StartsWith (a ++ b) (a ++ front)
front_behind a b front e = ap (λ (n : ℕ). take n (a ++ b)) (length-append a front) ∙ take-append-add a b (length front) ∙ ap (λ (l : List ℕ). a ++ l) e

pub front_all : (a : List ℕ) → StartsWith a a
front_all a = take_all (length a) a (omega arith)

pub front_take : (n : ℕ) (a : List ℕ) → n ≤ length a → StartsWith a (take n a)
front_take n a h = ap (λ (k : ℕ). take k a) (length-take n a ∙ omega arith)

-- ---- texts of a history
pub told_text : (Stands : History → Type 0) (text : List ℕ) (old new : Texts) (before after : ℕ) → new ≡ with_bytes old Report text → after ≡ before → ToldWhole Stands (λ h. text) old new before after
told_text Stands text old new before after e calm = record { text = text; written = e; holds = λ h stands. refl; calm = calm }

pub cut_text : (Stands : History → Type 0) (text : List ℕ) (old new : Texts) (before after : ℕ) (halt : Halt) → CutsText Report text old new before after halt
    → CutOff Stands (λ h. text) old new before after halt
cut_text Stands text old new before after Write ((n, short, e), rose) = record { text = take n text; written = e; holds = λ h stands. front_take n text short; cause = rose }
cut_text Stands text old new before after NoMemory (e, calm) = record { text = []; written = e ∙ sym (added_nothing old Report); holds = λ h stands. refl; cause = calm }

pub written_behind : (old mid new : Texts) (a b : List ℕ) → mid ≡ with_bytes old Report a → new ≡ with_bytes mid Report b → new ≡ with_bytes old Report (a ++ b)
written_behind old mid new a b e f = f ∙ ap (λ (t : Texts). with_bytes t Report b) e ∙ added_more old Report a b

-- one text behind another
pub told_then : (Stands : History → Type 0) (first more : History → List ℕ) (old mid new : Texts) (before between after : ℕ)
    → ToldWhole Stands first old mid before between → ToldWhole Stands more mid new between after → ToldWhole Stands (λ h. first h ++ more h) old new before after
told_then Stands first more old mid new before between after a b = record {
  text = a.text ++ b.text;
  written = written_behind old mid new a.text b.text a.written b.written;
  holds = λ h stands. ap (λ (l : List ℕ). l ++ b.text) (a.holds h stands) ∙ ap (λ (l : List ℕ). first h ++ l) (b.holds h stands);
  calm = b.calm ∙ a.calm;
}

has_cause : (before between after : ℕ) (halt : Halt) → between ≡ before → HaltHasCause between after halt → HaltHasCause before after halt
has_cause before between after Write same rose = subst (λ (n : ℕ). Rose n after) same rose
has_cause before between after NoMemory same calm = calm ∙ same

pub cut_then : (Stands : History → Type 0) (first more : History → List ℕ) (old mid new : Texts) (before between after : ℕ) (halt : Halt)
    → ToldWhole Stands first old mid before between → CutOff Stands more mid new between after halt → CutOff Stands (λ h. first h ++ more h) old new before after halt
cut_then Stands first more old mid new before between after halt a b = record {
  text = a.text ++ b.text;
  written = written_behind old mid new a.text b.text a.written b.written;
  holds = λ h stands. subst (λ (l : List ℕ). StartsWith (first h ++ more h) (l ++ b.text)) (sym (a.holds h stands)) (front_behind (first h) (more h) b.text (b.holds h stands));
  cause = has_cause before between after halt a.calm b.cause;
}

pub tells_then : {A : Type 0} (Stands : History → Type 0) (first more : History → List ℕ) (old mid new : Texts) (before between after : ℕ) (r : Result A Halt)
    → ToldWhole Stands first old mid before between → TellsOutcome Stands more mid new between after r → TellsOutcome Stands (λ h. first h ++ more h) old new before after r
tells_then Stands first more old mid new before between after (Ok u) a b = told_then Stands first more old mid new before between after a b
tells_then Stands first more old mid new before between after (Err halt) a b = cut_then Stands first more old mid new before between after halt a b

-- a text that is not written whole is not, whatever is to follow
pub cut_short : (Stands : History → Type 0) (first all : History → List ℕ) (old new : Texts) (before after : ℕ) (halt : Halt)
    → ((h : History) → Stands h → (more : List ℕ) × (all h ≡ first h ++ more)) → CutOff Stands first old new before after halt → CutOff Stands all old new before after halt
cut_short Stands first all old new before after halt goes a = record {
  text = a.text;
  written = a.written;
  holds = λ h stands. let (more, e) = goes h stands in subst (λ (l : List ℕ). StartsWith l a.text) (sym e) (front_more (first h) more a.text (a.holds h stands));
  cause = a.cause;
}

-- nothing is due yet
pub told_nothing : (Stands : History → Type 0) (due : History → List ℕ) (old : Texts) (before : ℕ) → ((h : History) → Stands h → [] ≡ due h) → ToldWhole Stands due old old before before
told_nothing Stands due old before none = record { text = []; written = sym (added_nothing old Report); holds = none; calm = refl }

-- what is due is also this
pub told_same : (Stands : History → Type 0) (due other : History → List ℕ) (old new : Texts) (before after : ℕ) → ((h : History) → Stands h → due h ≡ other h)
    → ToldWhole Stands due old new before after → ToldWhole Stands other old new before after
told_same Stands due other old new before after same a = record { text = a.text; written = a.written; holds = λ h stands. a.holds h stands ∙ same h stands; calm = a.calm }

-- ---- the texts of the points, one after another
abbrev pub texts_to : {X : Type 0} → (ℕ → List ℕ) → ℕ → ℕ → List X → List ℕ
texts_to f p n xs = flat_map (λ e. f e.0) (take p (enumerate_from n xs))

texts_more_suc : {X : Type 0} (f : ℕ → List ℕ) (p n : ℕ) (xs : List X) → p < length xs → texts_to f (suc p) n xs ≡ texts_to f p n xs ++ f (n + p)
texts_more_suc f p n [] h = absurd (omega arith)
texts_more_suc f zero n (x ∷ xs) h = append-nil (f n) ∙ ap f (omega arith)
texts_more_suc f (suc p) n (x ∷ xs) h =
    let next : n + 1 + p ≡ n + suc p = omega arith in
    ap (λ (l : List ℕ). f n ++ l) (texts_more_suc f p (n + 1) xs (omega arith) ∙ ap (λ (k : ℕ). texts_to f p (n + 1) xs ++ f k) next) ∙ sym (append_assoc (f n) (texts_to f p (n + 1) xs) (f (n + suc p)))

pub texts_more : {X : Type 0} (f : ℕ → List ℕ) (p : ℕ) (xs : List X) → p < length xs → texts_to f p 0 xs ++ f p ≡ texts_to f (p + 1) 0 xs
texts_more f p xs h =
    let next : suc p ≡ p + 1 = omega arith in
    let none : 0 + p ≡ p = omega arith in
    sym (texts_more_suc f p 0 xs h ∙ ap (λ (k : ℕ). texts_to f p 0 xs ++ f k) none) ∙ ap (λ (k : ℕ). texts_to f k 0 xs) next

enumerated_length : {X : Type 0} (n : ℕ) (xs : List X) → length (enumerate_from n xs) ≡ length xs
enumerated_length n [] = refl
enumerated_length n (x ∷ xs) = ap suc (enumerated_length (n + 1) xs)

pub texts_all : {X : Type 0} (f : ℕ → List ℕ) (p : ℕ) (xs : List X) → length xs ≤ p → texts_to f p 0 xs ≡ flat_map (λ e. f e.0) (enumerate_from 0 xs)
texts_all f p xs h = ap (flat_map (λ e. f e.0)) (take_all p (enumerate_from 0 xs) (omega (arith, enumerated_length 0 xs)))

pub texts_rest : {X : Type 0} (f : ℕ → List ℕ) (p : ℕ) (xs : List X) → (more : List ℕ) × (flat_map (λ e. f e.0) (enumerate_from 0 xs) ≡ texts_to f p 0 xs ++ more)
texts_rest f p xs = (
  flat_map (λ e. f e.0) (drop p (enumerate_from 0 xs)),
  ap (flat_map (λ e. f e.0)) (sym (take-append-drop p (enumerate_from 0 xs))) ∙ flat_map-append (λ e. f e.0) (take p (enumerate_from 0 xs)) (drop p (enumerate_from 0 xs)),
)

pub texts_behind : {X : Type 0} (f : ℕ → List ℕ) (p : ℕ) (xs : List X) → p < length xs → (more : List ℕ) × (flat_map (λ e. f e.0) (enumerate_from 0 xs) ≡ (texts_to f p 0 xs ++ f p) ++ more)
texts_behind f p xs h =
    let (more, e) = texts_rest f (p + 1) xs in
    (more, e ∙ ap (λ (l : List ℕ). l ++ more) (sym (texts_more f p xs h)))
