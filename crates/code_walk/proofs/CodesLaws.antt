-- What `codes` answers, both ways: the ranges of all code, or the first `Code` attribute that is none.
use Rattle.std.proofs.Common.{◌≡◌, ◌≢◌, ℕ, List, ◌∷◌, ◌++◌, Result, Ok, Err, refl, sym, ap, subst, ◌∙◌}
use Rattle.std.specs.List.{flat_map, AllByRecursion}
use Rattle.class_pool.specs.declared.fault.ClassFault.{ClassFault}
use Rattle.class_pool.specs.declared.fault.ClassCause.TheVariants.{Attribute as Bad}
use Rattle.class_pool.specs.Spelling.{Head}
use Rattle.class_pool.specs.Reading.{head_at}
use Rattle.class_pool.proofs.Heads.{head_again}
use Rattle.class_shape.specs.Parts.{body}
use Rattle.class_shape.proofs.PlaceLaws.{file_placed}
use Rattle.std.proofs.Common.{length, []}
use Rattle.class_pool.specs.Reading.{IsBytes, Gives}
use Rattle.class_pool.specs.Reading.{no_memory as no_room}
use Rattle.class_shape.specs.Parts.{Body, IsFile}
use Rattle.class_shape.specs.Meaning.{joined}
use Rattle.class_shape.specs.Reading.{AttributeSeen}
use Rattle.class_shape.specs.Places.{method_attributes}
use Rattle.code_walk.specs.declared.fault.WalkFault.{WalkFault}
use Rattle.code_walk.specs.declared.fault.WalkCause.TheVariants.{OutOfMemory, Attribute}
use Rattle.code_walk.specs.Faults.{no_memory}
use Rattle.code_walk.specs.Code.{code_attributes, same_list, AreCodes, IsCodeFault}
use Rattle.code_walk.specs.CodeReading.{method_ranges, codes_read, told}
use Rattle.code_walk.proofs.JoinLaws.{Ranges, HasBytes, one_range, each_found, each_only, Stop, each_stops, stops, among, flattened}
use Rattle.code_walk.proofs.BodyLaws.{code_bytes_fit}
use Rattle.code_walk.proofs.AnswerLaws.{is_memory}

abbrev pub read_ranges : Head → Body → Result Ranges ClassFault
read_ranges h b = joined (method_ranges h.entries) (method_attributes h b)

by_codes : (h : Head) (b : Body) → read_ranges h b ≡ joined one_range (code_attributes h b)
by_codes h b = flattened h.entries (method_attributes h b) ∙ among h.entries (flat_map same_list (method_attributes h b))

-- of a class file its parts are read
read_file : (bytes : List ℕ) (h : Head) (b : Body) → IsFile bytes h b → codes_read bytes ≡ read_ranges h b
unfolding codes_read
read_file bytes h b is =
    let head_is : head_at (length bytes) bytes ≡ Ok (h, body b) = ap (head_at (length bytes)) is.parts ∙ head_again (length bytes) h (body b) is.is_head in
    rw (head_is, file_placed bytes h b is) refl

abbrev pub Read : {V : Type 0} → (V → Ranges) → List ℕ → Result V ClassFault → Type 0
Read view bytes r = (h : Head) (b : Body) → IsFile bytes h b → Gives view r (read_ranges h b)

-- what stands for any layout of the bytes
pub read_of : {V : Type 0} (view : V → Ranges) (bytes : List ℕ) (r : Result V ClassFault) → Gives view r (codes_read bytes) → Read view bytes r
read_of view bytes r given = λ h b is. subst (λ (x : Result Ranges ClassFault). Gives view r x) (read_file bytes h b is) given

ok_same : (x y : Ranges) (r : Result Ranges ClassFault) → r ≡ Ok x → r ≡ Ok y → x ≡ y
ok_same x y r e f = cc

pub ok_found : {V : Type 0} (view : V → Ranges) (bytes : List ℕ) (v : V) → IsBytes bytes → ((h : Head) × (b : Body) × IsFile bytes h b) → Read view bytes (Ok v) → AreCodes bytes (view v)
ok_found view bytes v fits layout given =
    let h = layout.0 in let b = layout.1 in let is = layout.2 in
    record { head = h; body = b; is_file = is; each = each_found (code_attributes h b) (view v) (code_bytes_fit bytes h b fits is) (sym (by_codes h b) ∙ given h b is) }

pub ok_only : {V : Type 0} (view : V → Ranges) (bytes : List ℕ) (v : V) (ranges : Ranges) → AreCodes bytes ranges → Read view bytes (Ok v) → view v ≡ ranges
ok_only view bytes v ranges codes given =
    ok_same (view v) ranges (read_ranges codes.head codes.body) (given codes.head codes.body codes.is_file) (by_codes codes.head codes.body ∙ each_only _ _ codes.each)

no_ok : (x : Ranges) (d : ClassFault) (r : Result Ranges ClassFault) → r ≡ Ok x → r ≡ Err d → ⊥
no_ok x d r e f = absurd cc

err_same : (c d : ClassFault) (r : Result Ranges ClassFault) → r ≡ Err c → r ≡ Err d → c ≡ d
err_same c d r e f = cc

bad_bytes : (good : List AttributeSeen) (bad : AttributeSeen) (more : List AttributeSeen) → AllByRecursion HasBytes (good ++ (bad ∷ more)) → HasBytes bad
bad_bytes [] bad more h = h.0
bad_bytes (a ∷ good) bad more h = bad_bytes good bad more h.1

abbrev class_fault : ℕ → ClassFault
class_fault at = record { at = at; cause = Bad }

fault_reads : (bytes : List ℕ) (fault : WalkFault) → IsBytes bytes → (f : IsCodeFault bytes fault) → read_ranges f.head f.body ≡ Err (class_fault f.bad.len_at)
fault_reads bytes fault fits f =
    let all = subst (λ (l : List AttributeSeen). AllByRecursion HasBytes l) f.split (code_bytes_fit bytes f.head f.body fits f.is_file) in
    by_codes f.head f.body ∙ ap (joined one_range) f.split ∙ stops f.good f.bad f.more f.each (bad_bytes f.good f.bad f.more all) f.none

pub ok_refused : {V : Type 0} (view : V → Ranges) (bytes : List ℕ) (v : V) (fault : WalkFault) → IsBytes bytes → IsCodeFault bytes fault → Read view bytes (Ok v) → ⊥
ok_refused view bytes v fault fits f given = no_ok (view v) (class_fault f.bad.len_at) (read_ranges f.head f.body) (given f.head f.body f.is_file) (fault_reads bytes fault fits f)

-- a fault of the walk that isn't want of memory is none of the reading's
some_room : (e : ClassFault) → told e ≢ no_memory → e ≢ no_room
some_room e h k = h (ap told k)

some_cause : (e : ClassFault) → ((told e).cause ≡ OutOfMemory → ⊥) → e ≢ no_room
some_cause e h k = h (ap (λ (f : ClassFault). (told f).cause) k)

stop_is : (h : Head) (b : Body) (bytes : List ℕ) (e : ClassFault) → IsFile bytes h b → Stop (code_attributes h b) e → IsCodeFault bytes (told e)
stop_is h b bytes e is s = record { head = h; body = b; is_file = is; good = s.good; bad = s.bad; more = s.more; split = s.split; each = s.each; none = s.none; fault_is = ap told s.fault_is }

err_found : {V : Type 0} (view : V → Ranges) (bytes : List ℕ) (e : ClassFault) → IsBytes bytes → ((h : Head) × (b : Body) × IsFile bytes h b) → Read view bytes (Err e) → e ≢ no_room → IsCodeFault bytes (told e)
err_found view bytes e fits layout given some =
    let h = layout.0 in let b = layout.1 in let is = layout.2 in
    stop_is h b bytes e is (each_stops (code_attributes h b) e (code_bytes_fit bytes h b fits is) (sym (by_codes h b) ∙ given h b is some))

pub err_first : {V : Type 0} (view : V → Ranges) (bytes : List ℕ) (e : ClassFault) → IsBytes bytes → ((h : Head) × (b : Body) × IsFile bytes h b) → Read view bytes (Err e) → (told e).cause ≢ OutOfMemory → IsCodeFault bytes (told e)
err_first view bytes e fits layout given some = err_found view bytes e fits layout given (some_cause e some)

pub err_only : {V : Type 0} (view : V → Ranges) (bytes : List ℕ) (e : ClassFault) (ranges : Ranges) → AreCodes bytes ranges → Read view bytes (Err e) → told e ≡ no_memory
err_only view bytes e ranges codes given =
    is_memory (told e) (λ some. no_ok ranges e (read_ranges codes.head codes.body) (by_codes codes.head codes.body ∙ each_only _ _ codes.each) (given codes.head codes.body codes.is_file (some_room e some)))

pub err_refused : {V : Type 0} (view : V → Ranges) (bytes : List ℕ) (e : ClassFault) (fault : WalkFault) → IsBytes bytes → IsCodeFault bytes fault → Read view bytes (Err e) → told e ≢ no_memory → told e ≡ fault
err_refused view bytes e fault fits f given some =
    ap told (err_same e (class_fault f.bad.len_at) (read_ranges f.head f.body) (given f.head f.body f.is_file (some_room e some)) (fault_reads bytes fault fits f)) ∙ sym f.fault_is

not_want : (at : ℕ) (fault : WalkFault) → fault ≡ record { at = at; cause = Attribute } → fault.cause ≡ OutOfMemory → ⊥
not_want at fault e k = let c : fault.cause ≡ Attribute = ap (λ (f : WalkFault). f.cause) e in absurd cc

pub err_memory : {V : Type 0} (view : V → Ranges) (bytes : List ℕ) (e : ClassFault) → IsBytes bytes → ((h : Head) × (b : Body) × IsFile bytes h b) → Read view bytes (Err e) → (told e).cause ≡ OutOfMemory → (told e).at ≡ 0
err_memory view bytes e fits layout given want =
    ap (λ (f : WalkFault). f.at) (is_memory (told e) (λ some. let f = err_found view bytes e fits layout given (some_room e some) in not_want f.bad.len_at (told e) f.fault_is want))
