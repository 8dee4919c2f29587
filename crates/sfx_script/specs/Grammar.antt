-- The grammar of a script's lines: for each first word the forms of the words behind it, in order.
use Rattle.std.specs.Prelude.{ℕ, Bool, if◌then◌else◌, Option, Some, None, List, [], ◌∷◌, codes}
use Rattle.std.specs.Option.{is_some}
use Rattle.std.specs.Str.{bytes_eq}
use Rattle.sfx_script.specs.Word.{printed, name_of, number_of, uuid_of, item_of, version_of, value_of, keep_of, clash_of, batch_of, group_of, cut_of, trace_of}
use Rattle.sfx_script.specs.declared.kind.Kind.{Kind}
use Rattle.sfx_script.specs.declared.kind.Kind.TheVariants.{Units, Replica, Files, Create, Set, Delete, Clean, Scan, Sync, Show, Knows, Equal}

-- The forms that a word can have.
pub data Form : Type 0 where
  number : Form
  name : Form
  uuid : Form
  item : Form
  version : Form
  value : Form
  keep : Form
  clash : Form
  batch : Form
  group : Form
  cut : Form
  trace : Form

-- The word has the form: its bytes may stand in a line, and it stands for something of that kind.
abbrev pub has_form : Form → List ℕ → Bool
has_form number word = is_some (printed number_of word)
has_form name word = is_some (printed name_of word)
has_form uuid word = is_some (printed uuid_of word)
has_form item word = is_some (printed item_of word)
has_form version word = is_some (printed version_of word)
has_form value word = is_some (printed value_of word)
has_form keep word = is_some (printed keep_of word)
has_form clash word = is_some (printed clash_of word)
has_form batch word = is_some (printed batch_of word)
has_form group word = is_some (printed group_of word)
has_form cut word = is_some (printed cut_of word)
has_form trace word = is_some (printed trace_of word)

-- What may stand behind a first word: words of the needed forms, one for each, and then words of further
-- forms, in the order of those, each form at most once.
pub record Shape : Type 0 where
  pub needed : List Form
  pub further : List Form

-- What may stand behind the first word of each kind of line.
abbrev pub shape_of : Kind → Shape
shape_of Units = record { needed = number ∷ []; further = [] }
shape_of Replica = record { needed = name ∷ uuid ∷ []; further = [] }
shape_of Files = record { needed = name ∷ uuid ∷ []; further = [] }
shape_of Create = record { needed = name ∷ value ∷ []; further = value ∷ value ∷ value ∷ value ∷ value ∷ value ∷ value ∷ [] }
shape_of Set = record { needed = name ∷ item ∷ number ∷ value ∷ []; further = [] }
shape_of Delete = record { needed = name ∷ item ∷ []; further = [] }
shape_of Clean = record { needed = name ∷ []; further = item ∷ [] }
shape_of Scan = record { needed = name ∷ []; further = [] }
shape_of Sync = record { needed = name ∷ name ∷ keep ∷ clash ∷ []; further = batch ∷ group ∷ cut ∷ trace ∷ [] }
shape_of Show = record { needed = name ∷ []; further = [] }
shape_of Knows = record { needed = name ∷ item ∷ number ∷ version ∷ []; further = [] }
shape_of Equal = record { needed = name ∷ name ∷ []; further = [] }

-- The kind of line that begins with this word.
abbrev pub line_kind : List ℕ → Option Kind
line_kind word =
    if bytes_eq word (codes "units") then Some Units
    else if bytes_eq word (codes "replica") then Some Replica
    else if bytes_eq word (codes "files") then Some Files
    else if bytes_eq word (codes "create") then Some Create
    else if bytes_eq word (codes "set") then Some Set
    else if bytes_eq word (codes "delete") then Some Delete
    else if bytes_eq word (codes "clean") then Some Clean
    else if bytes_eq word (codes "scan") then Some Scan
    else if bytes_eq word (codes "sync") then Some Sync
    else if bytes_eq word (codes "show") then Some Show
    else if bytes_eq word (codes "knows") then Some Knows
    else if bytes_eq word (codes "equal") then Some Equal
    else None
