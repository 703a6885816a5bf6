-- After a write of a task's instruction, what it reaches is what the write says.
use Rattle.rv_exec.specs.Writes.{Write, Stores, Reserves, Releases, IsAfter}
use Rattle.mm_space.specs.Accesses.{executable, readable, writable}
use Rattle.quantum.specs.Acting.{Acting, acting_after_write, is_same, memory_of}
use Rattle.quantum.specs.laws.Held.{held_stored}
use Rattle.quantum.specs.laws.Reserving.{bytes_left, bytes_reserved, held_reserved, none_held}
use Rattle.quantum.specs.laws.Stores.{bytes_stored}

pub written : (acting : Acting) (write : Write)
    → IsAfter (is_same acting) write (memory_of acting) (memory_of (acting_after_write write acting))
written acting (Stores at width value) = record {
  code = λ address small. bytes_stored executable acting.task at width value acting.reach address;
  data_ = λ address small. bytes_stored readable acting.task at width value acting.reach address;
  room = λ address small. bytes_stored writable acting.task at width value acting.reach address;
  reserves = held_stored acting.task at width value acting.reach;
}
written acting (Reserves at width) = λ value there. record {
  code = bytes_reserved executable acting.task at width acting.reach;
  data_ = bytes_reserved readable acting.task at width acting.reach;
  room = bytes_reserved writable acting.task at width acting.reach;
  reserves_ = held_reserved readable acting.task at width value acting.reach there;
}
written acting (Releases at) = record {
  code = bytes_left executable acting.task at acting.reach;
  data_ = bytes_left readable acting.task at acting.reach;
  room = bytes_left writable acting.task at acting.reach;
  reserves_ = none_held acting.task at acting.reach;
}
