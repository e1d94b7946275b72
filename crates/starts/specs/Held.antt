-- The log that the first entries of a buffer make. Assumes nothing.
use Rattle.memory.specs.Log.{Log, entries}
use Rattle.starts.specs.declared.entries.Entries.{Entries}

abbrev pub held : Entries → Log
held e = entries e.numbers.now e.count
