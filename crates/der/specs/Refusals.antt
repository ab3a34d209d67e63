-- Refusals: the number of each reason, and readings that may be refused.
use Rattle.std.specs.Prelude.{ℕ, Ok, Err, Result}
use Rattle.der.specs.declared.refusal.Refusal.{Refusal}
use Rattle.der.specs.declared.refusal.Reason.{Reason}
use Rattle.der.specs.declared.refusal.Reason.TheVariants.{FileTooLong, CutShort, LengthForm, WrongTag, BytesLeft, BadContent, TextSize, ListSize, Repeated, EntryMissing, CriticalMark, AlgorithmsDiffer, Status, OtherKind, NotVouched, ClaimOut, NotHead, AlreadyFitted, NotFitted, TooManyKeys, TooManyParts, ClaimVoid, NamedTwice}

-- the number that stands for a reason
abbrev pub number_of : Reason → ℕ
number_of FileTooLong = 1
number_of CutShort = 2
number_of LengthForm = 3
number_of WrongTag = 4
number_of BytesLeft = 5
number_of BadContent = 6
number_of TextSize = 7
number_of ListSize = 8
number_of Repeated = 9
number_of EntryMissing = 10
number_of CriticalMark = 11
number_of AlgorithmsDiffer = 12
number_of Status = 13
number_of OtherKind = 14
number_of NotVouched = 20
number_of ClaimOut = 21
number_of NotHead = 22
number_of AlreadyFitted = 23
number_of NotFitted = 24
number_of TooManyKeys = 25
number_of TooManyParts = 26
number_of ClaimVoid = 27
number_of NamedTwice = 28

-- a reading refused for a reason, at a place
abbrev pub refused : {X : Type 0} → Reason → ℕ → Result X Refusal
refused why at = Err (record { reason = why; place = at })

-- what goes on where a reading went well; the first refusal stands
abbrev pub then : {X Y : Type 0} → Result X Refusal → (X → Result Y Refusal) → Result Y Refusal
then (Ok x) k = k x
then (Err e) k = Err e
