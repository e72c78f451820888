-- Words, numbers and the calls that a line writes.
use Rattle.std.proofs.Common.{◌≡◌, ℕ, true, List, ◌∷◌, ◌++◌, length, get_or, Some, None, Ok, Err, codes, IsUtf8, IsAscii, Option, Result, lit<, sym, ◌∙◌, subst, arith, Bor, rules}
use Rattle.std.specs.Str.Iter.{LacksByte}
use Rattle.std.specs.Str.Parse.{ParsesUnsigned}
use Rattle.std.specs.Option.{MatchOption}
use Rattle.std.specs.Result.{result_ok, MatchResult}
use Rattle.std.specs.Str.{all_ascii_digits}
use Rattle.std.proofs.lemmas.Str.Ascii.{IsAscii-from_reads, IsAscii-cons}
use Rattle.std.proofs.ByRecursion.{IsAscii-from_all}
use Rattle.std.proofs.lemmas.List.{append_cancel_left}
use Rattle.std.proofs.lemmas.Str.Parse.{IsNumeralModel, numerals_by_fold, tells_all_ascii_digits, not_in_digits, digit_at, parse_plain}
use Rattle.std.proofs.lemmas.Str.Pattern.{IsSplitOnceResult, split_after}
use Rattle.std.proofs.lemmas.Str.{IsAscii-append, IsUtf8-from_ascii}
use Rattle.table.specs.Number.{decimal, decimal_from}
use Rattle.machine.specs.declared.call.Ticket.{Ticket}
use Rattle.machine.specs.declared.call.Call.{Call}
use Rattle.machine.specs.declared.call.Call.TheVariants.{Advance, Enter, Leave, Finish}
use Rattle.trace.specs.Line.{Number, Counts, Three, Writes, Says}

own : IsNumeralModel (λ ds. all_ascii_digits ds ≡ true) decimal
own = numerals_by_fold _ tells_all_ascii_digits decimal_from (search rules)

-- what is read of a word without a sign
pub counted : {E : Type 0} → (bits : ℕ) (word : List ℕ) (r : Result ℕ E) → ParsesUnsigned bits 10 word r → (get_or word 0 0 ≡ 43 → ⊥) → Counts bits word (result_ok r)
counted {E} bits word (Ok n) h plain =
    let p = parse_plain own {E = E} bits word (Ok n) h plain in
    record { digits = p.0.0; some = p.0.1; value = p.1; fits = omega (arith, p) }
counted {E} bits word (Err e) h plain = λ n k. parse_plain own {E = E} bits word (Err e) h plain (k.digits, k.some, omega (arith, k.value, k.fits))

-- digits hold no space
spaceless : (bits : ℕ) (ds : List ℕ) (n : ℕ) → Number bits ds n → LacksByte 32 ds
spaceless bits ds n p = not_in_digits own ds 32 p.digits (λ i. omega arith)

-- three numbers are cut at the first space, and what is behind it at its first
abbrev pub Cuts : (List ℕ → List ℕ → Type 0) → Option (Bor (List ℕ) × Bor (List ℕ)) → Type 0
Cuts P r = MatchOption r ⊥ (λ x. P x.0.now x.1.now)

two_cut : (g : Ticket) (task rest ts ss ns : List ℕ) (r : Option (Bor (List ℕ) × Bor (List ℕ))) → task ≡ ts → rest ≡ ss ++ (32 ∷ ns) → IsSplitOnceResult 32 rest r → Number 64 ts g.task → Number 64 ss g.section → Number 32 ns g.serial
    → Cuts (λ section serial. Number 64 task g.task × Number 64 section g.section × Number 32 serial g.serial) r
two_cut g task rest ts ss ns None et e h t s n = split_after 32 rest ss ns None h (lit< tt) e (spaceless 64 ss g.section s)
two_cut g task rest ts ss ns (Some y) et e h t s n =
    let second = split_after 32 rest ss ns (Some y) h (lit< tt) e (spaceless 64 ss g.section s) in
    (subst (λ l. Number 64 l g.task) (sym et) t, subst (λ l. Number 64 l g.section) (sym second.0) s, subst (λ l. Number 32 l g.serial) (sym second.1) n)

pub three_cut : (words : List ℕ) (r : Option (Bor (List ℕ) × Bor (List ℕ))) (g : Ticket) → IsSplitOnceResult 32 words r → Three words g
    → Cuts (λ task rest. (s : Option (Bor (List ℕ) × Bor (List ℕ))) → IsSplitOnceResult 32 rest s → Cuts (λ section serial. Number 64 task g.task × Number 64 section g.section × Number 32 serial g.serial) s) r
three_cut words None g h (ts, ss, ns, e, t, s, n) = split_after 32 words ts (ss ++ (32 ∷ ns)) None h (lit< tt) e (spaceless 64 ts g.task t)
three_cut words (Some x) g h (ts, ss, ns, e, t, s, n) =
    let first = split_after 32 words ts (ss ++ (32 ∷ ns)) (Some x) h (lit< tt) e (spaceless 64 ts g.task t) in
    λ r k. two_cut g x.0.now x.1.now ts ss ns r first.0 first.1 k t s n

-- a line with the word of a leave writes no other call
pub no_leave : (line rest : List ℕ) → line ≡ codes "leave " ++ rest → ((g : Ticket) → Three rest g → ⊥) → (c : Call) → Writes line c → ⊥
no_leave line rest e h (Advance t) (ds, e', n) = let z : ◌≡◌ {A = ℕ} 108 97 = cc in omega arith
no_leave line rest e h (Enter s) (ds, e', n) = let z : ◌≡◌ {A = ℕ} 108 101 = cc in omega arith
no_leave line rest e h (Leave g) (ds, e', n) = h g (subst (λ (l : List ℕ). Three l g) (append_cancel_left (codes "leave ") ds rest (sym e' ∙ e)) n)
no_leave line rest e h Finish e' = let z : ◌≡◌ {A = ℕ} 108 102 = cc in omega arith

-- a line that writes a call is text
number_ascii : (bits : ℕ) (ds : List ℕ) (n : ℕ) → Number bits ds n → IsAscii ds
number_ascii bits ds n p = IsAscii-from_reads ds (length ds) (omega arith) (λ k h. omega (arith, digit_at ds k (own.to ds p.digits) h))

three_ascii : (words : List ℕ) (g : Ticket) → Three words g → IsAscii words
three_ascii words g (ts, ss, ns, e, t, s, n) =
    subst IsAscii (sym e)
    (IsAscii-append ts (32 ∷ (ss ++ (32 ∷ ns))) (number_ascii 64 ts g.task t)
    (IsAscii-cons 32 (ss ++ (32 ∷ ns)) (omega arith) (IsAscii-append ss (32 ∷ ns) (number_ascii 64 ss g.section s) (IsAscii-cons 32 ns (omega arith) (number_ascii 32 ns g.serial n)))))

pub writes_text : (line : List ℕ) (c : Call) → Writes line c → IsUtf8 line
writes_text line (Advance t) (ds, e, n) = IsUtf8-from_ascii line (subst IsAscii (sym e) (IsAscii-append (codes "advance ") ds (IsAscii-from_all (codes "advance ") (search rules)) (number_ascii 64 ds t n)))
writes_text line (Enter s) (ds, e, n) = IsUtf8-from_ascii line (subst IsAscii (sym e) (IsAscii-append (codes "enter ") ds (IsAscii-from_all (codes "enter ") (search rules)) (number_ascii 64 ds s n)))
writes_text line (Leave g) (ds, e, n) = IsUtf8-from_ascii line (subst IsAscii (sym e) (IsAscii-append (codes "leave ") ds (IsAscii-from_all (codes "leave ") (search rules)) (three_ascii ds g n)))
writes_text line Finish e = IsUtf8-from_ascii line (subst IsAscii (sym e) (IsAscii-from_all (codes "finish") (search rules)))

-- the call that bytes are: the one that they are as text, if they are text
pub said_of : {E : Type 0} (Bad : E → Type 0) (given : List ℕ) (r : Result (Bor (List ℕ)) E) (text : Option (Bor (List ℕ))) (call : Option Call)
    → MatchResult r (λ s. (s.now ≡ given) × IsUtf8 given) (λ e. (IsUtf8 given → ⊥) × Bad e) → text ≡ result_ok r → MatchOption text (call ≡ None) (λ x. Says x.now call) → Says given call
said_of Bad given (Ok s) text call cases e said = subst (λ l. Says l call) cases.0 (subst (λ o. MatchOption o (call ≡ None) (λ x. Says x.now call)) e said)
said_of Bad given (Err b) text call cases e said = subst (Says given) (sym (subst (λ o. MatchOption o (call ≡ None) (λ x. Says x.now call)) e said)) (λ k h. cases.0 (writes_text given k h))
