-- The lines of a script, row by row: the words that make a line, and the line that they make.
use Rattle.std.specs.Prelude.{◌≡◌, ◌≤◌, ℕ, Bool, true, Option, Some, None, List, [], ◌∷◌, ◌++◌, length}
use Rattle.std.specs.List.{list_all}
use Rattle.std.specs.Option.{unwrap_or, is_some}
use Rattle.sfx_ids.specs.declared.item_id.ItemId.{ItemId}
use Rattle.sfx_ids.specs.declared.version.Version.{Version}
use Rattle.sfx_model.specs.declared.keep.Keep.{Keep}
use Rattle.sfx_model.specs.declared.clash_rule.ClashRule.{ClashRule}
use Rattle.sfx_script.specs.Grammar.{line_kind}
use Rattle.sfx_script.specs.Script.{words_of}
use Rattle.sfx_script.specs.Word.{is_printable, name_of, number_of, uuid_of, item_of, version_of, value_of, keep_of, clash_of, batch_of, group_of, cut_of, trace_of}
use Rattle.sfx_script.specs.declared.kind.Kind.{Kind}
use Rattle.sfx_script.specs.declared.kind.Kind.TheVariants as kinds
use Rattle.sfx_script.specs.declared.line.Line.{Line}
use Rattle.sfx_script.specs.declared.line.Line.TheVariants.{Units, Replica, Files, Create, Set, Delete, Clean, Scan, Sync, Show, Knows, Equal}
use Rattle.sfx_script.specs.declared.options.Options.{Options}

-- The words stand for values, one by one.
pub data StandFor : List (List ℕ) → List (List ℕ) → Type 0 where
  none : StandFor [] []
  one_more : (w v : List ℕ) (ws vs : List (List ℕ)) → value_of w ≡ Some v → StandFor ws vs → StandFor (w ∷ ws) (v ∷ vs)

-- The words are one that stands for something, or none.
pub data IsGiven {A : Type 0} (of : List ℕ → Option A) : List (List ℕ) → Option A → Type 0 where
  absent : IsGiven of [] None
  present : (w : List ℕ) (x : A) → of w ≡ Some x → IsGiven of (w ∷ []) (Some x)

-- The words are options, in the order `batch=`, `group=`, `cut=`, `trace` and each once at most. Without
-- words of their own a batch has 100 entries at most and a group one.
pub data AreOptions : List (List ℕ) → Options → Type 0 where
  options : (bs gs cs ts : List (List ℕ)) (batch group cut : Option ℕ) (trace : Option Bool)
      → IsGiven batch_of bs batch → IsGiven group_of gs group → IsGiven cut_of cs cut → IsGiven trace_of ts trace
      → AreOptions (bs ++ (gs ++ (cs ++ ts))) (record { batch = unwrap_or batch 100; group = unwrap_or group 1; cut = cut; trace = is_some trace })

-- A first word of this kind and the words behind it make the line.
pub data Makes : Kind → List (List ℕ) → Line → Type 0 where
  units : (w : List ℕ) (n : ℕ) → number_of w ≡ Some n → Makes kinds.Units (w ∷ []) (Units n)
  replica : (w u name : List ℕ) (id : ℕ) → name_of w ≡ Some name → uuid_of u ≡ Some id → Makes kinds.Replica (w ∷ u ∷ []) (Replica name id)
  files : (w u name : List ℕ) (id : ℕ) → name_of w ≡ Some name → uuid_of u ≡ Some id → Makes kinds.Files (w ∷ u ∷ []) (Files name id)
  create : (w name : List ℕ) (ws values : List (List ℕ)) → name_of w ≡ Some name → 1 ≤ length ws → length ws ≤ 8 → StandFor ws values → Makes kinds.Create (w ∷ ws) (Create name values)
  set : (w i k v name value : List ℕ) (item : ItemId) (unit : ℕ) → name_of w ≡ Some name → item_of i ≡ Some item → number_of k ≡ Some unit → value_of v ≡ Some value
      → Makes kinds.Set (w ∷ i ∷ k ∷ v ∷ []) (Set name item unit value)
  delete : (w i name : List ℕ) (item : ItemId) → name_of w ≡ Some name → item_of i ≡ Some item → Makes kinds.Delete (w ∷ i ∷ []) (Delete name item)
  clean_all : (w name : List ℕ) → name_of w ≡ Some name → Makes kinds.Clean (w ∷ []) (Clean name None)
  clean : (w i name : List ℕ) (item : ItemId) → name_of w ≡ Some name → item_of i ≡ Some item → Makes kinds.Clean (w ∷ i ∷ []) (Clean name (Some item))
  scan : (w name : List ℕ) → name_of w ≡ Some name → Makes kinds.Scan (w ∷ []) (Scan name)
  sync : (a b k c source destination : List ℕ) (keep : Keep) (clash : ClashRule) (ws : List (List ℕ)) (given : Options)
      → name_of a ≡ Some source → name_of b ≡ Some destination → keep_of k ≡ Some keep → clash_of c ≡ Some clash → AreOptions ws given
      → Makes kinds.Sync (a ∷ b ∷ k ∷ c ∷ ws) (Sync source destination keep clash given)
  show : (w name : List ℕ) → name_of w ≡ Some name → Makes kinds.Show (w ∷ []) (Show name)
  knows : (w i k v name : List ℕ) (item : ItemId) (unit : ℕ) (version : Version) → name_of w ≡ Some name → item_of i ≡ Some item → number_of k ≡ Some unit → version_of v ≡ Some version
      → Makes kinds.Knows (w ∷ i ∷ k ∷ v ∷ []) (Knows name item unit version)
  equal : (a b first second : List ℕ) → name_of a ≡ Some first → name_of b ≡ Some second → Makes kinds.Equal (a ∷ b ∷ []) (Equal first second)

-- The bytes are this line: they are blanks and printable characters of ASCII, and their words make the line.
pub record IsLine (line : List ℕ) (read : Line) : Type 0 where
  pub printable : list_all is_printable line ≡ true
  pub first : List ℕ
  pub words : List (List ℕ)
  pub divided : words_of line ≡ first ∷ words
  pub kind : Kind
  pub begins : line_kind first ≡ Some kind
  pub makes : Makes kind words read
