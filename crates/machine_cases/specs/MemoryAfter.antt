-- Memory after a write, as a function of memory before it.
use Rattle.std.specs.Prelude.{ℕ, Bool, ◌==◌, ◌&&◌, false, refl}
use Rattle.rv_table.specs.Bytes.{SeenMemory}
use Rattle.rv_exec.specs.Writes.{Write, Stores, Reserves, Releases, IsAfter, stored_byte}

-- memory after a write: each byte, to each kind of access, and whether the task has a reservation
-- RISC-V Unprivileged ISA 20191213, 2.6, Load and Store Instructions; 8.2, Load-Reserved/Store-Conditional Instructions
abbrev pub memory_after : (is_same : (a b : ℕ) → Bool) → Write → SeenMemory → SeenMemory
memory_after is_same (Stores at width value) m = record {
  code = λ address. stored_byte is_same at width value address (m.code address);
  data_ = λ address. stored_byte is_same at width value address (m.data_ address);
  room = λ address. stored_byte is_same at width value address (m.room address);
  reserves = m.reserves;
}
memory_after is_same (Reserves at width) m = record {
  code = m.code;
  data_ = m.data_;
  room = m.room;
  reserves = λ address size. (address == at) && (size == width);
}
memory_after is_same (Releases at) m = record {
  code = m.code;
  data_ = m.data_;
  room = m.room;
  reserves = λ address size. false;
}

-- it is what the write says
-- RISC-V Unprivileged ISA 20191213, 2.6, Load and Store Instructions; 8.2, Load-Reserved/Store-Conditional Instructions
pub is_memory_after : (is_same : (a b : ℕ) → Bool) (m : SeenMemory) (write : Write)
    → IsAfter is_same write m (memory_after is_same write m)
is_memory_after is_same m (Stores at width value) = record {
  code = λ address below. refl;
  data_ = λ address below. refl;
  room = λ address below. refl;
  reserves = λ address size. refl;
}
is_memory_after is_same m (Reserves at width) = λ value is. record {
  code = refl;
  data_ = refl;
  room = refl;
  reserves_ = λ address size. refl;
}
is_memory_after is_same m (Releases at) = record {
  code = refl;
  data_ = refl;
  room = refl;
  reserves_ = λ address size. refl;
}
