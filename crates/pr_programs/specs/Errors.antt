-- Trusted: what the machine prints of an error of BASIC, between `?` and `  ERROR`.
use Rattle.std.specs.Prelude.{ℕ, List, codes}
use Rattle.pr_interpreter.specs.declared.values.BasicError.{BasicError}
use Rattle.pr_interpreter.specs.declared.values.BasicError.TheVariants.{Syntax, TypeMismatch, IllegalQuantity, Overflow, DivisionByZero, StringTooLong, FormulaTooComplex, BadSubscript, RedimensionedArray, UndefinedFunction, UndefinedStatement, OutOfData, ReturnWithoutGosub, NextWithoutFor, FileOpen, FileNotOpen, NotInputFile, TooManyFiles}

abbrev pub error_name : BasicError → List ℕ
error_name Syntax = codes "SYNTAX"
error_name TypeMismatch = codes "TYPE MISMATCH"
error_name IllegalQuantity = codes "ILLEGAL QUANTITY"
error_name Overflow = codes "OVERFLOW"
error_name DivisionByZero = codes "DIVISION BY ZERO"
error_name StringTooLong = codes "STRING TOO LONG"
error_name FormulaTooComplex = codes "FORMULA TOO COMPLEX"
error_name BadSubscript = codes "BAD SUBSCRIPT"
error_name RedimensionedArray = codes "REDIM'D ARRAY"
error_name UndefinedFunction = codes "UNDEF'D FUNCTION"
error_name UndefinedStatement = codes "UNDEF'D STATEMENT"
error_name OutOfData = codes "OUT OF DATA"
error_name ReturnWithoutGosub = codes "RETURN WITHOUT GOSUB"
error_name NextWithoutFor = codes "NEXT WITHOUT FOR"
error_name FileOpen = codes "FILE OPEN"
error_name FileNotOpen = codes "FILE NOT OPEN"
error_name NotInputFile = codes "NOT INPUT FILE"
error_name TooManyFiles = codes "TOO MANY FILES"
