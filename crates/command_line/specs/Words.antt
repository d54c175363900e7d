-- The words of the command line, and what they ask for.
use Rattle.std.specs.Prelude.{◌≡◌, ◌≢◌, ◌⊎◌, ℕ, ◌+◌, ◌<◌, ◌≤◌, List, [], ◌∷◌, ◌++◌, length, take, codes, Option, Some, slice_get, get_or, option_map, option_to_list, IfSome, true, suc}
use Rattle.std.specs.List.{flat_map, AllByRecursion}
use Rattle.std.specs.Str.{all_ascii_digits}
use Rattle.std.specs.Str.Parse.{digits_value}
use Rattle.command_line.specs.declared.command.Command.{Command}
use Rattle.command_line.specs.declared.command.Command.TheVariants as command
use Rattle.command_line.specs.declared.command.Plain.{Plain}
use Rattle.command_line.specs.declared.command.Plain.TheVariants as plain

-- The two names of a pair of files: the one that is read, and the one that is written.
abbrev pub Pair : Type 0
Pair = List ℕ × List ℕ

-- What can be asked for: the list of a sheet; a sheet, written anew; a server, with or without the name of a start text, over standard input and output
-- and these pairs of files, with or without so many workers; the counts of the uses in the class files of the start text of this name; or the sample of
-- this number.
pub data Asked : Type 0 where
  list : Asked
  upgrade : Asked
  serve : Option (List ℕ) → List Pair → Option ℕ → Asked
  count : List ℕ → Asked
  sample : ℕ → Asked

-- The name of a file: not empty, and no option.
pub record IsFileName (name : List ℕ) : Type 0 where
  pub some : name ≢ []
  pub no_option : slice_get name 0 ≢ Some 45

-- Names that can stand as `IN=OUT`: the first is a file's and holds no `=`, and the second isn't empty.
pub record IsPair (names : Pair) : Type 0 where
  pub input : IsFileName names.0
  pub parted : (i : ℕ) → i < length names.0 → get_or names.0 i 0 ≢ 61
  pub output : names.1 ≢ []

-- There are so many workers where some are asked for.
abbrev pub IsWorkerCount : ℕ → Type 0
IsWorkerCount n = (1 ≤ n) × (n ≤ 8)

-- The word that writes a number below 10: one digit.
abbrev pub digit_word : ℕ → List ℕ
digit_word n = (48 + n) ∷ []

-- A part of a server's words: `IN=OUT`, `--start FILE`, `--start=FILE` or `--ahead N`.
pub data Part : Type 0 where
  pair : Pair → Part
  start : List ℕ → Part
  joined : List ℕ → Part
  ahead : ℕ → Part

abbrev pub words_of : Part → List (List ℕ)
words_of (pair names) = (names.0 ++ 61 ∷ names.1) ∷ []
words_of (start file) = codes "--start" ∷ file ∷ []
words_of (joined file) = (codes "--start=" ++ file) ∷ []
words_of (ahead n) = codes "--ahead" ∷ digit_word n ∷ []

abbrev pub IsPart : Part → Type 0
IsPart (pair names) = IsPair names
IsPart (start file) = IsFileName file
IsPart (joined file) = IsFileName file
IsPart (ahead n) = IsWorkerCount n

-- The pair of a part, the start text that it names, and the number of workers that it tells.
abbrev pub pair_in : Part → List Pair
pair_in (pair names) = names ∷ []
pair_in (start file) = []
pair_in (joined file) = []
pair_in (ahead n) = []

abbrev pub start_in : Part → List (List ℕ)
start_in (pair names) = []
start_in (start file) = file ∷ []
start_in (joined file) = file ∷ []
start_in (ahead n) = []

abbrev pub workers_in : Part → List ℕ
workers_in (pair names) = []
workers_in (start file) = []
workers_in (joined file) = []
workers_in (ahead n) = n ∷ []

-- There are at most so many pairs.
abbrev pub most_pairs : ℕ
most_pairs = 63

-- The words after `serve` are parts in any order: these pairs, and this start text and this number of workers at most once each.
pub record AreParts (told : Option (List ℕ)) (names : List Pair) (workers : Option ℕ) (rest : List (List ℕ)) : Type 0 where
  pub parts : List Part
  pub each : AllByRecursion IsPart parts
  pub words : rest ≡ flat_map words_of parts
  pub starts : flat_map start_in parts ≡ option_to_list told
  pub pairs : flat_map pair_in parts ≡ names
  pub numbers : flat_map workers_in parts ≡ option_to_list workers
  pub few : length names ≤ most_pairs

-- The words after `count` name this start text, by `--start FILE` or `--start=FILE`, and there are no others.
abbrev pub NameStart : List ℕ → List (List ℕ) → Type 0
NameStart name rest = IsFileName name × ((rest ≡ codes "--start" ∷ name ∷ []) ⊎ (rest ≡ (codes "--start=" ++ name) ∷ []))

-- A word has one to seven digits and nothing else.
pub record IsShortNumeral (word : List ℕ) : Type 0 where
  pub some : word ≢ []
  pub few : length word ≤ 7
  pub digits : all_ascii_digits word ≡ true

-- The number of a sample, as a word writes it: at most 1,000,000, perhaps with zeros before it.
pub record IsSampleNumber (word : List ℕ) (n : ℕ) : Type 0 where
  pub written : IsShortNumeral word
  pub value : n ≡ digits_value 10 word
  pub small : n ≤ 1000000

-- The words ask for this: `list`; `upgrade`; `serve` and its parts; `count` and a start text; or `sample` and a number.
abbrev pub AskFor : Asked → List (List ℕ) → Type 0
AskFor list words = words ≡ codes "list" ∷ []
AskFor upgrade words = words ≡ codes "upgrade" ∷ []
AskFor (serve told pairs workers) words = (rest : List (List ℕ)) × AreParts told pairs workers rest × (words ≡ codes "serve" ∷ rest)
AskFor (count name) words = (rest : List (List ℕ)) × NameStart name rest × (words ≡ codes "count" ∷ rest)
AskFor (sample n) words = (word : List ℕ) × IsSampleNumber word n × (words ≡ codes "sample" ∷ word ∷ [])

-- The words ask for something else than a server.
abbrev pub AskForPlain : List (List ℕ) → Type 0
AskForPlain words = AskFor list words ⊎ (AskFor upgrade words ⊎ (((name : List ℕ) × AskFor (count name) words) ⊎ ((n : ℕ) × AskFor (sample n) words)))

-- Words with which something can be asked for begin with these.
pub record CanBegin (words : List (List ℕ)) : Type 0 where
  pub more : List (List ℕ)
  pub asked : Asked
  pub ask : AskFor asked (words ++ more)

-- The words ask for nothing: so many of them can begin words that do, and with the next one, if there is one, they can't.
pub record IsFirstWrong (words : List (List ℕ)) (place : ℕ) : Type 0 where
  pub within : place ≤ length words
  pub begins : CanBegin (take place words)
  pub wrong : place < length words → CanBegin (take (place + 1) words) → ⊥
  pub nothing : (asked : Asked) → AskFor asked words → ⊥

-- The pairs that are asked for.
abbrev pub pairs_asked : Asked → List Pair
pairs_asked list = []
pairs_asked upgrade = []
pairs_asked (serve told pairs workers) = pairs
pairs_asked (count name) = []
pairs_asked (sample n) = []

-- The words are those of a command, which keeps of the pairs their number.
abbrev pub Commands : Command → List (List ℕ) → Type 0
Commands command.List words = AskFor list words
Commands command.Upgrade words = AskFor upgrade words
Commands (command.Serve told many workers) words = (pairs : List Pair) × (length pairs ≡ many) × AskFor (serve (option_map (λ s. s.now) told) pairs workers) words
Commands (command.Count name) words = AskFor (count name.now) words
Commands (command.Sample n) words = AskFor (sample n) words

-- There are 1 to 8 workers, where the command has any.
abbrev pub HasFewWorkers : Command → Type 0
HasFewWorkers command.List = Unit {0}
HasFewWorkers command.Upgrade = Unit {0}
HasFewWorkers (command.Serve told many workers) = IfSome workers IsWorkerCount
HasFewWorkers (command.Count name) = Unit {0}
HasFewWorkers (command.Sample n) = Unit {0}

-- What a command other than `serve` was asked by.
abbrev pub plain_asked : Plain → Asked
plain_asked plain.List = list
plain_asked plain.Upgrade = upgrade
plain_asked (plain.Count name) = count name.now
plain_asked (plain.Sample n) = sample n

-- So many ends are needed: standard input and output, and one for each pair of files.
abbrev pub ends_of : Command → ℕ
ends_of command.List = 1
ends_of command.Upgrade = 1
ends_of (command.Serve told many workers) = many + 1
ends_of (command.Count name) = 1
ends_of (command.Sample n) = 1

abbrev pub ends_for : Asked → ℕ
ends_for list = 1
ends_for upgrade = 1
ends_for (serve told pairs workers) = suc (length pairs)
ends_for (count name) = 1
ends_for (sample n) = 1
