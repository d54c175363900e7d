-- The source files of a publication, one after the other.
use Rattle.std.proofs.Common.{rules, ◌≡◌, ◌∙◌, ap, sym, subst, refl, arith, inl, inr, ℕ, suc, ◌+◌, ◌<◌, ◌≤◌, List, [], ◌∷◌, ◌++◌, length, map, take, length-append, append_assoc, append-nil, Bool, true, false, Option, Some, None, Result, Ok, Err}
use Rattle.std.specs.Prelude.{IfSome, MatchResult, nat_le, if◌then◌else◌}
use Rattle.std.specs.List.{enumerate_from, filter_map, cons_option, slice_get, AllZip}
use Rattle.std.specs.Str.{is_utf8, IsUtf8}
use Rattle.std.proofs.lemmas.List.{map-append, length-map}
use Rattle.std.proofs.lemmas.List.Elements.{filter_map-append}
use Rattle.std.proofs.lemmas.Str.{IsUtf8-from_is_utf8, is_utf8-from_IsUtf8}
use Rattle.std.proofs.Math.Seq.{take-append_seam}
use Rattle.std.specs.declared.alloc.AllocError.{AllocError}
use Rattle.outside.specs.Held.{held_under, longest_load, answer_for, Gives}
use Rattle.outside.specs.declared.shelf.HeldFile.{HeldFile}
use Rattle.outside.specs.declared.shelf.Loaded as shelf
use Rattle.outside.specs.declared.shelf.Loaded.TheVariants.{Bytes, Missing, TooLong}
use Rattle.known_classes.specs.declared.summary.ClassSummary.{ClassSummary}
use Rattle.start_text.proofs.Reading.{head-none, head-some, zip-append}
use Rattle.source_classes.specs.KnownNames.{ArePuts}
use Rattle.answers.specs.Asks.{Loaded, classes, missing, too_long, no_class_file, no_text, unreadable}
use Rattle.sessions.specs.Worlds.{WorldState}
use Rattle.sessions.specs.Publications.{LeavesFiles}
use Rattle.sessions.specs.Loads.{MayHold, source_fault, first_unread, SourcesFail, SourcesAdd, SourcesGive, loads_of}
use Rattle.sessions.specs.Loading.{IsUnreadable}
use Rattle.sessions.specs.Sources.{SourceFails, FailsAs, AreTexts, GaveNone, AreUnread, HasFailed}
use Rattle.sessions.specs.declared.loading.Files as code
use Rattle.sessions.specs.declared.loading.Files.TheVariants as variant
use Rattle.sessions.specs.declared.sources.Unread.{Unread}
use Rattle.sessions.specs.declared.sources.Unread.TheVariants.{Told, OutOfMemory}
use Rattle.sessions.proofs.Filing.{numbers, none_left, held_still, any_held, may_any, long_held, many}

abbrev Content : Type 0
Content = Option (List ℕ)

abbrev fault_at : (ℕ × Content) → Option Loaded
fault_at file = source_fault file.0 file.1

unread_behind : (n i : ℕ) (xs ys : List Content) → i ≡ n + length xs → first_unread n xs ≡ None → first_unread n (xs ++ ys) ≡ first_unread i ys
unread_behind n i xs ys is e =
    ap (λ ps. slice_get (filter_map fault_at ps) 0) (numbers n xs ys ∙ ap (λ k. enumerate_from n xs ++ enumerate_from k ys) (sym is))
    ∙ ap (λ fs. slice_get fs 0) (filter_map-append fault_at (enumerate_from n xs) (enumerate_from i ys))
    ∙ head-none (filter_map fault_at (enumerate_from n xs)) (filter_map fault_at (enumerate_from i ys)) e

one : (o : Option Loaded) → slice_get (cons_option o []) 0 ≡ o
one None = refl
one (Some f) = refl

unread_one : (i : ℕ) (c : Content) → first_unread i (c ∷ []) ≡ source_fault i c
unread_one i c = one (source_fault i c)

unread_first : (i : ℕ) (c : Content) (more : List Content) (f : Loaded) → source_fault i c ≡ Some f → first_unread i (c ∷ more) ≡ Some f
unread_first i c more f e =
    ap (λ fs. slice_get fs 0) (filter_map-append fault_at ((i, c) ∷ []) (enumerate_from (i + 1) more))
    ∙ head-some (filter_map fault_at ((i, c) ∷ [])) (filter_map fault_at (enumerate_from (i + 1) more)) f (unread_one i c ∙ e)

-- What files of these names may hold.
all_any : (holds : Option (List HeldFile)) (names : List (List ℕ)) → AllZip (MayHold holds) names (map (any_held holds) names)
all_any holds [] = tt
all_any holds (x ∷ xs) = (may_any holds x, all_any holds xs)

-- The files up to a place hold these texts.
pub record IsUpTo (holds : Option (List HeldFile)) (n : ℕ) (names rest : List (List ℕ)) (index : ℕ) (texts : List (List ℕ)) : Type 0 where
  pub before : List (List ℕ)
  pub split : names ≡ before ++ rest
  pub count : index ≡ n + length texts
  pub held : AllZip (MayHold holds) before (map Some texts)
  pub sound : first_unread n (map Some texts) ≡ None

pub up_to_start : (holds : Option (List HeldFile)) (n : ℕ) (names : List (List ℕ)) (texts : List (List ℕ)) → texts ≡ [] → IsUpTo holds n names names n texts
up_to_start holds n names texts is =
    subst (λ ts. IsUpTo holds n names names n ts) (sym is) (record { before = []; split = refl; count = omega arith; held = tt; sound = refl })

module _ (holds : Option (List HeldFile)) (n : ℕ) (names : List (List ℕ)) (x : List ℕ) (more : List (List ℕ)) (i : ℕ) (texts : List (List ℕ)) (h : IsUpTo holds n names (x ∷ more) i texts) where
  counted : i ≡ n + length (map Some texts)
  counted = h.count ∙ ap (λ k. n + k) (sym (length-map texts Some))

  -- One text more.
  text_more : (t : List ℕ) → MayHold holds x (Some t) → source_fault i (Some t) ≡ None → IsUpTo holds n names more (i + 1) (texts ++ t ∷ [])
  text_more t may sound =
      let pushed : map Some (texts ++ t ∷ []) ≡ map Some texts ++ Some t ∷ [] = map-append Some texts (t ∷ []) in
      record {
        before = h.before ++ x ∷ [];
        split = h.split ∙ sym (append_assoc h.before (x ∷ []) more);
        count = omega (arith, h.count, length-append texts (t ∷ []));
        held = subst (AllZip (MayHold holds) (h.before ++ x ∷ [])) (sym pushed) (zip-append (MayHold holds) h.before (x ∷ []) (map Some texts) (Some t ∷ []) h.held (may, tt));
        sound = ap (first_unread n) pushed ∙ unread_behind n i (map Some texts) (Some t ∷ []) counted h.sound ∙ unread_one i (Some t) ∙ sound;
      }

  module _ (content : Content) (may : MayHold holds x content) where
    -- All files, the later ones with it.
    abbrev all : List Content
    all = map Some texts ++ content ∷ map (any_held holds) more

    all_held : AllZip (MayHold holds) names all
    all_held = subst (λ ns. AllZip (MayHold holds) ns all) (sym h.split) (zip-append (MayHold holds) h.before (x ∷ more) (map Some texts) (content ∷ map (any_held holds) more) h.held (may, all_any holds more))

    wrong_here : (f : Loaded) → source_fault i content ≡ Some f → first_unread n all ≡ Some f
    wrong_here f e = unread_behind n i (map Some texts) (content ∷ map (any_held holds) more) counted h.sound ∙ unread_first i content (map (any_held holds) more) f e

    sound_before : first_unread n (take (length (map Some texts)) all) ≡ None
    sound_before = ap (first_unread n) (take-append_seam (map Some texts) (content ∷ map (any_held holds) more)) ∙ h.sound

    -- What is told of it.
    tell : (loads : Loaded) → SourceFails i content loads → SourcesFail n all loads
    tell (classes cs) e = absurd e
    tell (missing k) e = wrong_here (missing k) e
    tell (too_long k) e = wrong_here (too_long k) e
    tell (no_class_file k f p) e = absurd e
    tell (no_text k) e = wrong_here (no_text k) e
    tell (unreadable k) e = (length (map Some texts), e ∙ counted, omega (arith, length-append (map Some texts) (content ∷ map (any_held holds) more)), sound_before)

    gave_none : (loads : Loaded) → SourceFails i content loads → GaveNone holds n names loads
    gave_none loads e = record { contents = all; held = all_held; fails = tell loads e }

pub read_text : {P : Type 0} (old now : WorldState) (n : ℕ) (names rest : List (List ℕ)) (x name : List ℕ) (more : List (List ℕ)) (i : ℕ) (texts : List (List ℕ)) (t : List ℕ) (ts : List (List ℕ)) (content : Content)
    → rest ≡ x ∷ more → name ≡ x → ts ≡ texts ++ t ∷ [] → LeavesFiles P old now → IsUpTo old.holds n names rest i texts
    → MayHold now.holds name content → content ≡ Some t → source_fault i content ≡ None → IsUpTo old.holds n names more (i + 1) ts
read_text old now n names rest x name more i texts t ts content is same grown kept read may holds sound =
    subst (λ us. IsUpTo old.holds n names more (i + 1) us) (sym grown)
    (text_more old.holds n names x more i texts (subst (λ ns. IsUpTo old.holds n names ns i texts) is read) t
    (subst (MayHold old.holds x) holds (held_still old now x name content same kept may)) (ap (source_fault i) (sym holds) ∙ sound))

pub unread_here : {P : Type 0} (old now : WorldState) (n : ℕ) (names rest : List (List ℕ)) (x name : List ℕ) (more : List (List ℕ)) (i : ℕ) (texts : List (List ℕ)) (content : Content) (unread : Unread)
    → rest ≡ x ∷ more → name ≡ x → LeavesFiles P old now → IsUpTo old.holds n names rest i texts → MayHold now.holds name content → FailsAs i content unread → AreUnread old.holds n names unread
unread_here old now n names rest x name more i texts content (Told files) is same kept read may fails =
    gave_none old.holds n names x more i texts (subst (λ ns. IsUpTo old.holds n names ns i texts) is read) content (held_still old now x name content same kept may) (loads_of files) fails
unread_here old now n names rest x name more i texts content OutOfMemory is same kept read may fails = tt

pub texts_all : (holds : Option (List HeldFile)) (n : ℕ) (names rest : List (List ℕ)) (i : ℕ) (texts : List (List ℕ)) → length rest ≡ 0 → IsUpTo holds n names rest i texts → AreTexts holds n names texts
texts_all holds n names rest i texts is h =
    let whole : names ≡ h.before = h.split ∙ ap (λ r. h.before ++ r) (none_left rest is) ∙ append-nil h.before in
    record { held = subst (λ ns. AllZip (MayHold holds) ns (map Some texts)) (sym whole) h.held; sound = h.sound }

-- What is wrong with a file, by what it holds.
le_true : (m n : ℕ) → m ≤ n → nat_le m n ≡ true
le_true m n l = search rules

pub text_sound : (index : ℕ) (bytes : List ℕ) → length bytes ≤ longest_load → IsUtf8 bytes → source_fault index (Some bytes) ≡ None
text_sound index bytes l u = rw (le_true (length bytes) longest_load l, is_utf8-from_IsUtf8 bytes u) refl

not_utf8 : (b : Bool) (index : ℕ) → (b ≡ true → false ≡ true) → (if b then None else Some (no_text index)) ≡ Some (no_text index)
not_utf8 true index f = let h : false ≡ true = f refl in cc
not_utf8 false index f = refl

pub text_broken : (index : ℕ) (bytes : List ℕ) → length bytes ≤ longest_load → (IsUtf8 bytes → false ≡ true) → source_fault index (Some bytes) ≡ Some (no_text index)
text_broken index bytes l f = rw (le_true (length bytes) longest_load l) (not_utf8 (is_utf8 bytes) index (λ b. f (IsUtf8-from_is_utf8 bytes b)))

too_many : (m n : ℕ) → n < m → nat_le m n ≡ false
too_many m n l = search rules

not_short : {A : Type 0} (b : Bool) (n m : ℕ) (x y : A) → TooLong n ≡ (if b then Bytes else TooLong m) → (if b then x else y) ≡ y
not_short true n m x y e = cc
not_short false n m x y e = refl

held_long : (index : ℕ) (held : Content) (n : ℕ) → TooLong n ≡ answer_for held → source_fault index held ≡ Some (too_long index)
unfolding answer_for
held_long index None n e = cc
held_long index (Some bytes) n e = not_short (nat_le (length bytes) longest_load) n (length bytes) _ _ e

pub text_long : (holds : Option (List HeldFile)) (name : List ℕ) (loaded : shelf.Loaded) (out : List ℕ) (index n : ℕ) → loaded ≡ TooLong n → longest_load < n → IfSome holds (λ files. Gives (held_under files name) loaded out)
    → source_fault index (long_held holds name n) ≡ Some (too_long index)
text_long None name loaded out index n is l g = rw (too_many (length (many n).0) longest_load (omega (arith, l, (many n).1))) refl
text_long (Some files) name loaded out index n is l g = held_long index (held_under files name) n (sym is ∙ g.0)

pub text_there : (index : ℕ) (bytes : List ℕ) (r : Result (List ℕ) Unread) → MatchResult r (λ text. (text ≡ bytes) × (source_fault index (Some bytes) ≡ None)) (λ unread. FailsAs index (Some bytes) unread)
    → MatchResult r (λ text. (Some bytes ≡ Some text) × (source_fault index (Some bytes) ≡ None)) (λ unread. FailsAs index (Some bytes) unread)
text_there index bytes (Ok text) h = (ap Some (sym h.0), h.1)
text_there index bytes (Err unread) h = h

-- The classes of a publication, by what its sources gave.
pub sources_added : (holds : Option (List HeldFile)) (n : ℕ) (names known texts : List (List ℕ)) (puts all : List ClassSummary) → AreTexts holds n names texts → ArePuts puts known texts all → SourcesGive holds n names known puts (classes all)
sources_added holds n names known texts puts all h are =
    record { contents = map Some texts; held = h.held; gives = inr (record { texts = texts; all = all; read = refl; sound = h.sound; are = are; given = refl }) }

pub sources_failed : (holds : Option (List HeldFile)) (n : ℕ) (names known : List (List ℕ)) (puts : List ClassSummary) (loads : Loaded) → GaveNone holds n names loads → SourcesGive holds n names known puts loads
sources_failed holds n names known puts loads h = record { contents = h.contents; held = h.held; gives = inl h.fails }

-- A source file that couldn't be read is told as one.
pub failed_told : {X : Type 0} (r : Result X Unread) (files : code.Files) → r ≡ Err (Told files) → IsUnreadable (Ok files) → HasFailed r
failed_told r (variant.Classes puts) is u = absurd u
failed_told r (variant.Missing index) is u = absurd u
failed_told r (variant.TooLong index) is u = absurd u
failed_told r (variant.NoClass index class_fault place) is u = absurd u
failed_told r (variant.NoText index) is u = absurd u
failed_told r (variant.Unreadable index) is u = subst HasFailed (sym is) tt

-- The same by the steps of the code.
pub added_ok : (holds : Option (List HeldFile)) (n m : ℕ) (names listed known told : List (List ℕ)) (puts all : List ClassSummary) (texts read : List (List ℕ)) → m ≡ n → listed ≡ names → told ≡ known → read ≡ texts
    → AreTexts holds m listed texts → ArePuts puts told read all → SourcesGive holds n names known puts (classes all)
added_ok holds n m names listed known told puts all texts read e f g h t a =
    sources_added holds n names known texts puts all (subst (λ k. AreTexts holds k names texts) e (subst (λ ns. AreTexts holds m ns texts) f t))
    (subst (λ ks. ArePuts puts ks texts all) g (subst (λ ts. ArePuts puts told ts all) h a))

pub added_err : (holds : Option (List HeldFile)) (n m : ℕ) (names listed known : List (List ℕ)) (puts : List ClassSummary) (loads : Loaded) → m ≡ n → listed ≡ names → GaveNone holds m listed loads → SourcesGive holds n names known puts loads
added_err holds n m names listed known puts loads e f h =
    sources_failed holds n names known puts loads (subst (λ k. GaveNone holds k names loads) e (subst (λ ns. GaveNone holds m ns loads) f h))
