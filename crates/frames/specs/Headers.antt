-- What a header says. Definitions only.
use Rattle.std.specs.Prelude.{Bool, cond, List, ℕ, Option, Some, None}
use Rattle.rules.specs.Rules.{all, payload_start, stated, frame}
use Rattle.frames.specs.declared.Header.{Header}

-- of one that keeps rule 1: where the payload starts, and L
abbrev pub framed_as : List ℕ → Header
framed_as s = record { start = payload_start s; length = stated s }

-- by whether it keeps it: of one that breaks it, nothing
abbrev pub header_by : Bool → List ℕ → Option Header
header_by kept s = cond kept (Some (framed_as s)) None

unfoldable pub header_of : List ℕ → Option Header
header_of s = header_by (all (frame s)) s
