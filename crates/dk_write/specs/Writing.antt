-- What a writer keeps, and what it answers.
use Rattle.std.specs.Prelude.{◌≡◌, ◌++◌, ℕ, Bool, List, [], ◌∷◌, Result, Ok, Err}
use Rattle.std.specs.List.{list_any}
use Rattle.std.specs.Str.{bytes_eq}
use Rattle.dk_decl.specs.declared.decls.PointDecl.{PointDecl}
use Rattle.dk_io.specs.Streams.{AddsFront, Texts, with_bytes}
use Rattle.dk_io.specs.declared.outside.Stream.TheVariants.{Report}
use Rattle.dk_write.specs.declared.writer.WriteFault.{WriteFault}
use Rattle.dk_write.specs.declared.writer.WriteFault.TheVariants.{Unwritable, Known, Write, NoMemory}

-- one of the declarations has this name
abbrev pub knows : List ℕ → List PointDecl → Bool
knows name ds = list_any (λ d. bytes_eq d.name name) ds

-- What is on the streams: the whole text, or a front of it where writing failed, and nothing more where it was not begun.
abbrev pub Adds : {A : Type 0} → Texts → Texts → List ℕ → Result A WriteFault → Type 0
Adds old new text (Ok x) = new ≡ with_bytes old Report text
Adds old new text (Err Write) = AddsFront old new Report text
Adds old new text (Err Unwritable) = new ≡ old
Adds old new text (Err Known) = new ≡ old
Adds old new text (Err NoMemory) = new ≡ old

-- The declarations that are kept: one that was begun to be written is known.
abbrev pub declared_with : {A : Type 0} → List PointDecl → PointDecl → Result A WriteFault → List PointDecl
declared_with ds d (Ok x) = ds ++ d ∷ []
declared_with ds d (Err Write) = ds ++ d ∷ []
declared_with ds d (Err Unwritable) = ds
declared_with ds d (Err Known) = ds
declared_with ds d (Err NoMemory) = ds
