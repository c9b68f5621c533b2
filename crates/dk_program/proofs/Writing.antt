-- Writing texts one behind another.
use Rattle.std.proofs.Common.{◌≡◌, ◌≤◌, ◌<◌, ◌⊎◌, ◌+◌, ◌-◌, inl, inr, ℕ, zero, suc, List, [], ◌∷◌, ◌++◌, length, take, Option, Some, None, refl, sym, ◌∙◌, ap, subst, arith, append_assoc, length-append}
use Rattle.std.proofs.Math.Seq.{take-append-add}
use Rattle.std.proofs.lemmas.Grind.{flat_map-append}
use Rattle.std.proofs.lemmas.List.{append-nil, length-take, take-append-le, take_all}
use Rattle.std.specs.Io.{StartsWith}
use Rattle.std.specs.Io.KnownBytes.{append_known}
use Rattle.std.specs.List.{flat_map, range_with_len}
use Rattle.dk_blocks.specs.History.{History}
use Rattle.dk_io.specs.Outside.{Rose}
use Rattle.dk_io.specs.Streams.{Texts, with_bytes}
use Rattle.dk_io.specs.declared.outside.Stream.TheVariants.{Report}
use Rattle.dk_driver.specs.Consuming.{Record}
use Rattle.dk_events.specs.declared.ended.Ended.{Ended}
use Rattle.dk_events.specs.declared.ended.Ended.TheVariants.{Done}
use Rattle.dk_program.specs.Ending.{EndsWith, ReportEnds}
use Rattle.dk_program.specs.Telling.{BeginsOne, CutOff, CutsText, HaltHasCause, ToldWhole}
use Rattle.dk_program.specs.declared.reporting.Halt.{Halt}
use Rattle.dk_program.specs.declared.reporting.Halt.TheVariants.{Write, NoMemory}

-- ---- streams
known_more : (known : Option (List ℕ)) (a b : List ℕ) → append_known (append_known known a) b ≡ append_known known (a ++ b)
known_more None a b = refl
known_more (Some xs) a b = ap (λ (l : List ℕ). Some l) (append_assoc xs a b)

added_more : (old : Texts) (a b : List ℕ) → with_bytes (with_bytes old Report a) Report b ≡ with_bytes old Report (a ++ b)
added_more old a b = ap (λ (k : Option (List ℕ)). record old { report = k }) (known_more old.report a b)

pub known_nothing : (known : Option (List ℕ)) → append_known known [] ≡ known
known_nothing None = refl
known_nothing (Some xs) = ap (λ (l : List ℕ). Some l) (append-nil xs)

added_nothing : (old : Texts) → with_bytes old Report [] ≡ old
added_nothing old = ap (λ (k : Option (List ℕ)). record old { report = k }) (known_nothing old.report)

written_behind : (old mid new : Texts) (a b : List ℕ) → mid ≡ with_bytes old Report a → new ≡ with_bytes mid Report b → new ≡ with_bytes old Report (a ++ b)
written_behind old mid new a b e f = f ∙ ap (λ (t : Texts). with_bytes t Report b) e ∙ added_more old a b

-- ---- fronts
front_more : (a b front : List ℕ) → StartsWith a front → StartsWith (a ++ b) front
front_more a b front e =
    let short : length front ≤ length a = omega (arith, ap length e, length-take (length front) a) in
    take-append-le (length front) a b short ∙ e

front_behind : (a b front : List ℕ) → StartsWith b front → StartsWith (a ++ b) (a ++ front)
front_behind a b front e = ap (λ (n : ℕ). take n (a ++ b)) (length-append a front) ∙ take-append-add a b (length front) ∙ ap (λ (l : List ℕ). a ++ l) e

pub front_all : (a : List ℕ) → StartsWith a a
front_all a = take_all (length a) a (omega arith)

pub front_take : (n : ℕ) (a : List ℕ) → n ≤ length a → StartsWith a (take n a)
front_take n a h = ap (λ (k : ℕ). take k a) (length-take n a ∙ omega arith)

-- ---- a part
-- the text that is due
abbrev pub Only : (History → List Record → List ℕ) → History → List Record → List ℕ → Type 0
Only due h records text = text ≡ due h records

module _ (Stands : History → List Record → Type 0) where
  pub told_text : (due : History → List Record → List ℕ) (text : List ℕ) (old new : Texts) (before after : ℕ) → ((h : History) (records : List Record) → Stands h records → text ≡ due h records)
      → new ≡ with_bytes old Report text → after ≡ before → ToldWhole Stands (Only due) old new before after
  told_text due text old new before after same e calm = record { text = text; written = e; holds = same; calm = calm }

  pub cut_text : (due : History → List Record → List ℕ) (text : List ℕ) (old new : Texts) (before after : ℕ) (halt : Halt) → ((h : History) (records : List Record) → Stands h records → text ≡ due h records)
      → CutsText Report text old new before after halt → CutOff Stands (Only due) old new before after halt
  cut_text due text old new before after Write same ((n, short, e), rose) = record {
    written = inr (take n text, e, λ h records stands. (text, same h records stands, front_take n text short));
    cause = rose;
  }
  cut_text due text old new before after NoMemory same (e, calm) = record { written = inl e; cause = calm }

  -- nothing is written
  pub cut_nothing : (due : History → List Record → List ℕ) (old : Texts) (before : ℕ) → CutOff Stands (Only due) old old before before NoMemory
  cut_nothing due old before = record { written = inl refl; cause = refl }

  -- ---- one text behind another
  pub told_then : (first more : History → List Record → List ℕ) (old mid new : Texts) (before between after : ℕ)
      → ToldWhole Stands (Only first) old mid before between → ToldWhole Stands (Only more) mid new between after → ToldWhole Stands (Only (λ h records. first h records ++ more h records)) old new before after
  told_then first more old mid new before between after a b = record {
    text = a.text ++ b.text;
    written = written_behind old mid new a.text b.text a.written b.written;
    holds = λ h records stands. ap (λ (l : List ℕ). l ++ b.text) (a.holds h records stands) ∙ ap (λ (l : List ℕ). first h records ++ l) (b.holds h records stands);
    calm = b.calm ∙ a.calm;
  }

  has_cause : (before between after : ℕ) (halt : Halt) → between ≡ before → HaltHasCause between after halt → HaltHasCause before after halt
  has_cause before between after Write same rose = subst (λ (n : ℕ). Rose n after) same rose
  has_cause before between after NoMemory same calm = calm ∙ same

  pub cut_then : (first more : History → List Record → List ℕ) (old mid new : Texts) (before between after : ℕ) (halt : Halt)
      → ToldWhole Stands (Only first) old mid before between → CutOff Stands (Only more) mid new between after halt
      → CutOff Stands (Only (λ h records. first h records ++ more h records)) old new before after halt
  cut_then first more old mid new before between after halt a b = record { written = go b.written; cause = has_cause before between after halt a.calm b.cause } where
    go : (new ≡ mid) ⊎ ((text : List ℕ) × (new ≡ with_bytes mid Report text) × ((h : History) (records : List Record) → Stands h records → BeginsOne (Only more h records) text))
        → (new ≡ old) ⊎ ((text : List ℕ) × (new ≡ with_bytes old Report text) × ((h : History) (records : List Record) → Stands h records → BeginsOne (Only (λ h records. first h records ++ more h records) h records) text))
    go (inl e) = inr (
      a.text,
      e ∙ a.written,
      λ h records stands. (
        first h records ++ more h records,
        refl,
        front_more (first h records) (more h records) a.text (subst (λ (l : List ℕ). StartsWith l a.text) (a.holds h records stands) (front_all a.text)),
      ),
    )
    go (inr (text, e, begins)) = inr (
      a.text ++ text,
      written_behind old mid new a.text text a.written e,
      λ h records stands.
          let (whole, is, starts) = begins h records stands in (
            first h records ++ more h records,
            refl,
            subst (λ (l : List ℕ). StartsWith (first h records ++ more h records) (l ++ text)) (sym (a.holds h records stands))
                (front_behind (first h records) (more h records) text (subst (λ (l : List ℕ). StartsWith l text) is starts)),
          ),
    )

  -- a text that is not written whole is not, whatever is to follow
  pub cut_short : (first all : History → List Record → List ℕ) (old new : Texts) (before after : ℕ) (halt : Halt)
      → ((h : History) (records : List Record) → Stands h records → (more : List ℕ) × (all h records ≡ first h records ++ more))
      → CutOff Stands (Only first) old new before after halt → CutOff Stands (Only all) old new before after halt
  cut_short first all old new before after halt goes a = record { written = go a.written; cause = a.cause } where
    go : (new ≡ old) ⊎ ((text : List ℕ) × (new ≡ with_bytes old Report text) × ((h : History) (records : List Record) → Stands h records → BeginsOne (Only first h records) text))
        → (new ≡ old) ⊎ ((text : List ℕ) × (new ≡ with_bytes old Report text) × ((h : History) (records : List Record) → Stands h records → BeginsOne (Only all h records) text))
    go (inl e) = inl e
    go (inr (text, e, begins)) = inr (
      text,
      e,
      λ h records stands.
          let (more, same) = goes h records stands in
          let (whole, is, starts) = begins h records stands in (
            all h records,
            refl,
            subst (λ (l : List ℕ). StartsWith l text) (sym same) (front_more (first h records) more text (subst (λ (l : List ℕ). StartsWith l text) is starts)),
          ),
    )

  -- nothing is due yet
  pub told_nothing : (due : History → List Record → List ℕ) (old : Texts) (before : ℕ) → ((h : History) (records : List Record) → Stands h records → [] ≡ due h records) → ToldWhole Stands (Only due) old old before before
  told_nothing due old before none = record { text = []; written = sym (added_nothing old); holds = none; calm = refl }

  -- what is due is also this
  pub told_same : (due other : History → List Record → List ℕ) (old new : Texts) (before after : ℕ) → ((h : History) (records : List Record) → Stands h records → due h records ≡ other h records)
      → ToldWhole Stands (Only due) old new before after → ToldWhole Stands (Only other) old new before after
  told_same due other old new before after same a = record { text = a.text; written = a.written; holds = λ h records stands. a.holds h records stands ∙ same h records stands; calm = a.calm }

-- ---- a report that is made whole
module _ (Stands : History → List Record → Type 0) (IsDue : History → List Record → List ℕ → Type 0) (old new : Texts) (before after : ℕ) (result : Ended) where
  -- it was written, or a front of it
  pub whole_ends : (text : List ℕ) → ((h : History) (records : List Record) → Stands h records → IsDue h records text) → EndsWith Done Report text old new before after result
      → ReportEnds Stands IsDue old new before after result
  whole_ends text due (inl (is, e, calm)) = inl (is, record { text = text; written = e; holds = due; calm = calm })
  whole_ends text due (inr (inl (is, rose, (n, short, e)))) =
      inr (Write, is, record { written = inr (take n text, e, λ h records stands. (text, due h records stands, front_take n text short)); cause = rose })
  whole_ends text due (inr (inr (is, e, calm))) = inr (NoMemory, is, record { written = inl e; cause = calm })

-- ---- the parts, one after another
abbrev pub parts_to : (ℕ → List ℕ) → ℕ → List ℕ
parts_to f n = flat_map f (range_with_len 0 n)

range_apart : (a p k : ℕ) → range_with_len a (p + k) ≡ range_with_len a p ++ range_with_len (a + p) k
range_apart a zero k =
    let none : zero + k ≡ k = omega arith in
    let same : a ≡ a + zero = omega arith in
    ap (range_with_len a) none ∙ ap (λ (n : ℕ). range_with_len n k) same
range_apart a (suc p) k =
    let more : suc p + k ≡ suc (p + k) = omega arith in
    let next : a + 1 + p ≡ a + suc p = omega arith in
    ap (range_with_len a) more ∙ ap (λ (l : List ℕ). a ∷ l) (range_apart (a + 1) p k ∙ ap (λ (n : ℕ). range_with_len (a + 1) p ++ range_with_len n k) next)

pub parts_more : (f : ℕ → List ℕ) (p : ℕ) → parts_to f p ++ f p ≡ parts_to f (p + 1)
parts_more f p =
    let none : 0 + p ≡ p = omega arith in
    sym (ap (flat_map f) (range_apart 0 p 1) ∙ flat_map-append f (range_with_len 0 p) (range_with_len (0 + p) 1)
    ∙ ap (λ (l : List ℕ). parts_to f p ++ l) (append-nil (f (0 + p)) ∙ ap f none))

pub parts_behind : (f : ℕ → List ℕ) (p n : ℕ) → p < n → (more : List ℕ) × (parts_to f n ≡ (parts_to f p ++ f p) ++ more)
parts_behind f p n h =
    let all : n ≡ p + 1 + (n - (p + 1)) = omega (arith, h) in (
      flat_map f (range_with_len (0 + (p + 1)) (n - (p + 1))),
      ap (parts_to f) all ∙ ap (flat_map f) (range_apart 0 (p + 1) (n - (p + 1)))
          ∙ flat_map-append f (range_with_len 0 (p + 1)) (range_with_len (0 + (p + 1)) (n - (p + 1)))
          ∙ ap (λ (l : List ℕ). l ++ flat_map f (range_with_len (0 + (p + 1)) (n - (p + 1)))) (sym (parts_more f p)),
    )
