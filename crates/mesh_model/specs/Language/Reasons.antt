-- Why a script is refused, as it is printed.
use Rattle.std.specs.Prelude.{ℕ, List, codes}
use Rattle.mesh_model.specs.declared.language.script.Reason.{Reason}
use Rattle.mesh_model.specs.declared.language.script.Reason.TheVariants.{TooLong, TextAfterEnd, UnknownCommand, DomainMissing, TooLate, Twice, WordCount, UnknownVariable, NotNumber, OutOfRange, UnknownWord, BadName, NameTaken, TooMany, Unpaired, BadBox, EndMissing}

-- the reason as it is printed
abbrev pub reason_text : Reason → List ℕ
reason_text TooLong = codes "too long"
reason_text TextAfterEnd = codes "text after end"
reason_text UnknownCommand = codes "unknown command"
reason_text DomainMissing = codes "domain missing"
reason_text TooLate = codes "declaration too late"
reason_text Twice = codes "declared twice"
reason_text WordCount = codes "wrong number of words"
reason_text UnknownVariable = codes "unknown variable"
reason_text NotNumber = codes "not a number"
reason_text OutOfRange = codes "number out of range"
reason_text UnknownWord = codes "unknown word"
reason_text BadName = codes "bad name"
reason_text NameTaken = codes "name taken"
reason_text TooMany = codes "too many variables"
reason_text Unpaired = codes "periodic must pair"
reason_text BadBox = codes "bad box"
reason_text EndMissing = codes "end missing"
