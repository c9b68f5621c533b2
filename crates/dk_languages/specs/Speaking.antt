-- The variables of a point in a language, derived ones too.
pub mod Forms
use Rattle.std.specs.Prelude.{◌&&◌, ℕ, Bool, false, List, [], ◌∷◌, Option, Some, None, slice_get}
use Rattle.dk_base.specs.declared.kinds.Form.{Form}
use Rattle.dk_base.specs.declared.kinds.Form.TheVariants as form
use Rattle.dk_base.specs.declared.kinds.VarId.{VarId}
use Rattle.dk_base.specs.declared.kinds.VarInfo.{VarInfo}
use Rattle.dk_languages.specs.declared.variables.Base.{Base}
use Rattle.dk_languages.specs.declared.fillings.Filling.{Filling}
use Rattle.dk_languages.specs.declared.languages.Language.{Language}
use Rattle.dk_languages.specs.declared.speaking.Spoken.{Spoken}
use Rattle.dk_languages.specs.Speaking.Forms.{end_of, presence_of, start_of, value_of}
use Rattle.dk_languages.specs.Holes.{filled}

-- ---- what a variable comes from
abbrev pub form_in : Option VarInfo → Form
form_in None = form.Declared
form_in (Some info) = info.form

abbrev pub form_at : List VarInfo → VarId → Form
form_at infos v = form_in (slice_get infos v.0)

-- the sequence; a base variable comes from itself
abbrev pub sequence_of : VarId → Form → VarId
sequence_of v (form.Size s) = s
sequence_of v (form.First s) = s
sequence_of v (form.Last s) = s
sequence_of v (form.At s i) = s
sequence_of v (form.Upto s i) = s
sequence_of v (form.Before s i) = s
sequence_of v (form.Since s i) = s
sequence_of v (form.After s i) = s
sequence_of v f = v

-- the index, where there is one
abbrev pub index_of : VarId → Form → VarId
index_of v (form.At s i) = i
index_of v (form.Upto s i) = i
index_of v (form.Before s i) = i
index_of v (form.Since s i) = i
index_of v (form.After s i) = i
index_of v f = sequence_of v f

-- ---- base variables in the language
abbrev pub told_in : Option Base → Bool
told_in None = false
told_in (Some base) = base.is_told

abbrev pub path_in : Option Base → List ℕ
path_in None = []
path_in (Some base) = base.path

abbrev pub size_in : Option Base → List ℕ
size_in None = []
size_in (Some base) = base.size

-- ---- a variable
-- the variables that it comes from are told
abbrev pub is_spoken : List VarInfo → List Base → VarId → Bool
is_spoken infos bases v =
    told_in (slice_get bases (sequence_of v (form_at infos v)).0) && told_in (slice_get bases (index_of v (form_at infos v)).0)

-- P, S and I (80, 83, 73)
abbrev pub form_fillings : List VarInfo → List Base → VarId → List Filling
form_fillings infos bases v =
    record { letter = 80; text = path_in (slice_get bases (sequence_of v (form_at infos v)).0) }
    ∷ record { letter = 83; text = size_in (slice_get bases (sequence_of v (form_at infos v)).0) }
    ∷ record { letter = 73; text = path_in (slice_get bases (index_of v (form_at infos v)).0) }
    ∷ []

abbrev pub spoken : Language → List VarInfo → List Base → VarId → Spoken
spoken l infos bases v =
    record {
      value = filled (form_fillings infos bases v) (value_of l (form_at infos v));
      start = filled (form_fillings infos bases v) (start_of l (form_at infos v));
      end = filled (form_fillings infos bases v) (end_of l (form_at infos v));
      presence = filled (form_fillings infos bases v) (presence_of l (form_at infos v));
    }
