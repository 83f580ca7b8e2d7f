-- How many reads failed with a result.
use Rattle.std.proofs.Common.{◌≡◌, Result, Ok, Err, refl, ap}
use Rattle.std.specs.Result.{IsErrAnd}
use Rattle.cc_log.specs.Answers.{Gives, Refuses, failed_by, failed_reads}
use Rattle.cc_log.specs.Log.{Refusal}
use Rattle.cc_log.specs.Names.{LogFault}

-- no read failed where nothing was read
pub none_failed : {V : Type 0} (fault : LogFault) (due : Result V Refusal) → Refuses fault due → failed_by fault ≡ 0
none_failed (LogFault.Line line fault) due h = refl
none_failed (LogFault.Key line key) due h = refl
none_failed (LogFault.Clash line fault last) due h = refl
none_failed (LogFault.SentTwice first second item) due h = refl
none_failed LogFault.Empty due h = refl
none_failed LogFault.Read due h = absurd h
none_failed LogFault.Memory due h = refl

pub none_failed_in : {A V : Type 0} (value : A → V) (result : Result A LogFault) (due : Result V Refusal) → Gives value result due → failed_reads result ≡ 0
none_failed_in value (Ok x) due gives = refl
none_failed_in value (Err fault) due gives = none_failed fault due gives

-- the result of a fault that was passed on
pub failed_on : {A : Type 0} (result : Result A LogFault) (fault : LogFault) → IsErrAnd result (λ f. f ≡ fault) → failed_reads result ≡ failed_by fault
failed_on (Ok x) fault h = absurd h
failed_on (Err f) fault h = ap failed_by h
