-- What an instruction does with some areas in hand, and with all.
use Rattle.std.proofs.Common.{◌≡◌, ℕ, ◌%◌, ◌<◌, ◌≤◌, Bool, true, false, List, [], ◌∷◌, refl, ap, sym, ◌∙◌, arith, subst}
use Rattle.std.specs.Prelude.{nat_eq, if◌then◌else◌}
use Rattle.rv_table.specs.declared.error.Area.{Area}
use Rattle.rv_table.specs.declared.instr.Instr.{Instr}
use Rattle.rv_table.specs.declared.instr.Instr.TheVariants as instr
use Rattle.rv_table.specs.declared.registers.Regs.{Regs}
use Rattle.rv_table.specs.Bytes.{Accessed, Value, Fault, Shared, SeenMemory, loaded}
use Rattle.rv_table.specs.Registers.{at_pc, gone_on, reg, with_reg}
use Rattle.rv_table.specs.Words.{sum}
use Rattle.rv_alu.specs.Branches.{is_taken}
use Rattle.rv_exec.specs.Execution.{Done, Goes, Traps, Touches, aligned, allowed, both, branched}
use Rattle.rv_exec.specs.Execution.{by_value, conditional, done_by, even, extended, jumped, load_reserved, loads}
use Rattle.rv_exec.specs.Execution.{operates, operating, reserving, store_conditional, stores}
use Rattle.rv_exec.specs.Writes.{Stores}
use Rattle.mm_space.specs.Accesses.{readable, writable}
use Rattle.mm_space.specs.Handed.{InHand}
use Rattle.mm_space.specs.Spaces.{AddressSpace}
use Rattle.quantum.specs.Acting.{memory_of}
use Rattle.kernel_model.specs.machine.Instructions.{next_by, touches_area}
use Rattle.kernel_model.specs.machine.Spaces.{acting_with}
use Rattle.kernel_model.specs.entries.Parts.{Parts}
use Rattle.area_laws.specs.Whole.{AreAll, HasAreas}
use Rattle.area_laws.proofs.Bytes.{LacksOne, LoadsNear, Same as Same_loads, Asking as Asking_loads, loads_near as all_near}
use Rattle.area_laws.proofs.Bytes.{near, never_shared}
use Rattle.area_laws.proofs.Hands.{AreOf}

-- the address that an instruction accesses, of one that accesses any
abbrev pub address_of : Regs → Instr → ℕ
address_of r (instr.Lb rd rs1 imm) = sum (reg r rs1) imm
address_of r (instr.Lh rd rs1 imm) = sum (reg r rs1) imm
address_of r (instr.Lw rd rs1 imm) = sum (reg r rs1) imm
address_of r (instr.Ld rd rs1 imm) = sum (reg r rs1) imm
address_of r (instr.Lbu rd rs1 imm) = sum (reg r rs1) imm
address_of r (instr.Lhu rd rs1 imm) = sum (reg r rs1) imm
address_of r (instr.Lwu rd rs1 imm) = sum (reg r rs1) imm
address_of r (instr.Sb rs1 rs2 imm) = sum (reg r rs1) imm
address_of r (instr.Sh rs1 rs2 imm) = sum (reg r rs1) imm
address_of r (instr.Sw rs1 rs2 imm) = sum (reg r rs1) imm
address_of r (instr.Sd rs1 rs2 imm) = sum (reg r rs1) imm
address_of r (instr.LrW rd rs1) = reg r rs1
address_of r (instr.ScW rd rs1 rs2) = reg r rs1
address_of r (instr.AmoswapW rd rs1 rs2) = reg r rs1
address_of r (instr.AmoaddW rd rs1 rs2) = reg r rs1
address_of r (instr.AmoxorW rd rs1 rs2) = reg r rs1
address_of r (instr.AmoandW rd rs1 rs2) = reg r rs1
address_of r (instr.AmoorW rd rs1 rs2) = reg r rs1
address_of r (instr.AmominW rd rs1 rs2) = reg r rs1
address_of r (instr.AmomaxW rd rs1 rs2) = reg r rs1
address_of r (instr.AmominuW rd rs1 rs2) = reg r rs1
address_of r (instr.AmomaxuW rd rs1 rs2) = reg r rs1
address_of r (instr.LrD rd rs1) = reg r rs1
address_of r (instr.ScD rd rs1 rs2) = reg r rs1
address_of r (instr.AmoswapD rd rs1 rs2) = reg r rs1
address_of r (instr.AmoaddD rd rs1 rs2) = reg r rs1
address_of r (instr.AmoxorD rd rs1 rs2) = reg r rs1
address_of r (instr.AmoandD rd rs1 rs2) = reg r rs1
address_of r (instr.AmoorD rd rs1 rs2) = reg r rs1
address_of r (instr.AmominD rd rs1 rs2) = reg r rs1
address_of r (instr.AmomaxD rd rs1 rs2) = reg r rs1
address_of r (instr.AmominuD rd rs1 rs2) = reg r rs1
address_of r (instr.AmomaxuD rd rs1 rs2) = reg r rs1
address_of r _ = 0

-- a jump and a branch touch nothing
jump_stays : (r : Regs) (rd target : ℕ) → touches_area (next_by (jumped r rd target)) ≡ false
jump_stays r rd target = by (nat_eq (target % 4) 0)
  where
    by : (b : Bool) → touches_area (next_by (if b then Goes (at_pc (with_reg r rd (sum r.pc 4)) target) []
        else Traps 7)) ≡ false
    by true = refl
    by false = refl

branch_stays : (r : Regs) (taken : Bool) (target : ℕ) → touches_area (next_by (branched r taken target)) ≡ false
branch_stays r true target = by (nat_eq (target % 4) 0)
  where
    by : (b : Bool) → touches_area (next_by (if b then Goes (at_pc r target) [] else Traps 7)) ≡ false
    by true = refl
    by false = refl
branch_stays r false target = refl

module _ (s : Parts) (space : AddressSpace) (hand : List InHand) where
  -- an access comes to the same with all, or asks for an area that one of the first eight bytes lacks
  pub data AccessNear (at : ℕ) (a b : Accessed) : Type 0 where
    Plain : a ≡ b → ((name : Area) → b ≡ Shared name → ⊥) → AccessNear at a b
    Lack : (name : Area) (value : ℕ) → a ≡ Shared name → LacksOne s space hand at 8 name → b ≡ Value value
        → AccessNear at a b

  -- and so does what is done
  pub data DoneNear (at : ℕ) (d e : Done) : Type 0 where
    Same : next_by d ≡ next_by e → touches_area (next_by e) ≡ false → DoneNear at d e
    Asking : (name : Area) → d ≡ Touches name → LacksOne s space hand at 8 name → DoneNear at d e

  -- what is done by an access
  pub record ByAccess (k l : Accessed → Done) : Type 0 where
    pub shared : (name : Area) → k (Shared name) ≡ Touches name
    pub valued : (value : ℕ) → next_by (k (Value value)) ≡ next_by (l (Value value))
    pub valued_stays : (value : ℕ) → touches_area (next_by (l (Value value))) ≡ false
    pub faulty : (address : ℕ) → next_by (k (Fault address)) ≡ next_by (l (Fault address))
    pub faulty_stays : (address : ℕ) → touches_area (next_by (l (Fault address))) ≡ false

  by_access : (at : ℕ) (k l : Accessed → Done) → ByAccess k l → (a b : Accessed) → AccessNear at a b
      → DoneNear at (k a) (l b)
  by_access at k l is a b (Plain e never) =
      subst (λ (x : Accessed). DoneNear at (k x) (l b)) (sym e) (by b never)
    where
      by : (b : Accessed) → ((name : Area) → b ≡ Shared name → ⊥) → DoneNear at (k b) (l b)
      by (Value value) never = Same (is.valued value) (is.valued_stays value)
      by (Fault address) never = Same (is.faulty address) (is.faulty_stays address)
      by (Shared name) never = absurd (never name refl)
  by_access at k l is a b (Lack name value e lacks f) = Asking name (ap k e ∙ is.shared name) lacks

  aligned_near : (at address width : ℕ) (d e : Done) → DoneNear at d e
      → DoneNear at (aligned address width d) (aligned address width e)
  aligned_near at address width d e n = by (nat_eq (address % width) 0)
    where
      by : (b : Bool) → DoneNear at (if b then d else Traps 7) (if b then e else Traps 7)
      by true = n
      by false = Same refl refl

  both_near : (at : ℕ) (a b c d : Accessed) → AccessNear at a b → AccessNear at c d
      → AccessNear at (both a c) (both b d)
  both_near at a b c d (Plain e never) n =
      subst (λ (x : Accessed). AccessNear at (both x c) (both b d)) (sym e) (by b never n)
    where
      by_room : (value : ℕ) → AccessNear at c d → AccessNear at (both (Value value) c) (both (Value value) d)
      by_room value (Plain f not_b) =
          subst (λ (x : Accessed). AccessNear at (both (Value value) x) (both (Value value) d)) (sym f) (here d not_b)
        where
          here : (d : Accessed) → ((name : Area) → d ≡ Shared name → ⊥)
              → AccessNear at (both (Value value) d) (both (Value value) d)
          here (Value old) not_b = Plain refl (λ name h. absurd (cc h))
          here (Fault bad) not_b = Plain refl (λ name h. absurd (cc h))
          here (Shared name) not_b = absurd (not_b name refl)
      by_room value (Lack name old f lacks g) =
          Lack name value (ap (both (Value value)) f) lacks (ap (both (Value value)) g)

      by : (b : Accessed) → ((name : Area) → b ≡ Shared name → ⊥) → AccessNear at c d
          → AccessNear at (both b c) (both b d)
      by (Value value) never n = by_room value n
      by (Fault bad) never n = Plain refl (λ name h. absurd (cc h))
      by (Shared name) never n = absurd (never name refl)
  both_near at a b c d (Lack name value e lacks f) n =
      subst (λ (x : Accessed). AccessNear at (both x c) (both b d)) (sym e)
      (subst (λ (x : Accessed). AccessNear at (both (Shared name) c) (both x d)) (sym f) (by n))
    where
      by : AccessNear at c d → AccessNear at (both (Shared name) c) (both (Value value) d)
      by (Plain g not_b) =
          subst (λ (x : Accessed). AccessNear at (both (Shared name) x) (both (Value value) d)) (sym g) (here d not_b)
        where
          here : (d : Accessed) → ((name : Area) → d ≡ Shared name → ⊥)
              → AccessNear at (both (Shared name) d) (both (Value value) d)
          here (Value old) not_b = Lack name value refl lacks refl
          here (Fault bad) not_b = Plain refl (λ name h. absurd (cc h))
          here (Shared other) not_b = absurd (not_b other refl)
      by (Lack other old g more h) =
          Lack other value (ap (both (Shared name)) g) more (ap (both (Value value)) h)

  wider : (at width : ℕ) (name : Area) → width ≤ 8 → LacksOne s space hand at width name
      → LacksOne s space hand at 8 name
  wider at width name few l =
      let h : l.steps < width = l.within in
      record { steps = l.steps; within = omega (arith, h, few); lacks = l.lacks }

module _ (s : Parts) (space : AddressSpace) (task : ℕ) (hand all : List InHand) (are : AreOf s hand)
    (whole : HasAreas s space) (every : AreAll s all) where
  abbrev m : SeenMemory
  m = memory_of (acting_with task space hand)

  abbrev o : SeenMemory
  o = memory_of (acting_with task space all)

  data_near : (at width : ℕ) → width ≤ 8
      → AccessNear s space hand at (loaded m.data_ at width) (loaded o.data_ at width)
  data_near at width few =
      by (all_near s space hand all m.data_ o.data_ (λ address. near s space hand all are whole every readable address)
      at width)
    where
      by : LoadsNear s space hand m.data_ o.data_ at width
          → AccessNear s space hand at (loaded m.data_ at width) (loaded o.data_ at width)
      by (Same_loads e) =
          Plain e (never_shared s space hand all m.data_ o.data_
          (λ address. near s space hand all are whole every readable address) at width)
      by (Asking_loads name value e lacks g) = Lack name value e (wider s space hand at width name few lacks) g

  room_near : (at width : ℕ) → width ≤ 8
      → AccessNear s space hand at (loaded m.room at width) (loaded o.room at width)
  room_near at width few =
      by (all_near s space hand all m.room o.room (λ address. near s space hand all are whole every writable address)
      at width)
    where
      by : LoadsNear s space hand m.room o.room at width
          → AccessNear s space hand at (loaded m.room at width) (loaded o.room at width)
      by (Same_loads e) =
          Plain e (never_shared s space hand all m.room o.room
          (λ address. near s space hand all are whole every writable address) at width)
      by (Asking_loads name value e lacks g) = Lack name value e (wider s space hand at width name few lacks) g

  loads_near : (r : Regs) (rd at width : ℕ) (extend : ℕ → ℕ) → width ≤ 8
      → DoneNear s space hand at (loads m r rd at width extend) (loads o r rd at width extend)
  loads_near r rd at width extend few =
      by_access s space hand at (by_value r rd extend) (by_value r rd extend)
      (record {
        shared = λ name. refl;
        valued = λ value. refl;
        valued_stays = λ value. refl;
        faulty = λ address. refl;
        faulty_stays = λ address. refl;
      }) (loaded m.data_ at width) (loaded o.data_ at width) (data_near at width few)

  stores_near : (r : Regs) (at width value : ℕ) → width ≤ 8
      → DoneNear s space hand at (stores m r at width value) (stores o r at width value)
  stores_near r at width value few =
      by_access s space hand at (λ a. allowed a (Goes (gone_on r) (Stores at width value ∷ [])))
      (λ a. allowed a (Goes (gone_on r) (Stores at width value ∷ [])))
      (record {
        shared = λ name. refl;
        valued = λ value. refl;
        valued_stays = λ value. refl;
        faulty = λ address. refl;
        faulty_stays = λ address. refl;
      }) (loaded m.room at width) (loaded o.room at width) (room_near at width few)

  reserved_near : (r : Regs) (rd at width : ℕ) (extend : ℕ → ℕ) → width ≤ 8
      → DoneNear s space hand at (load_reserved m r rd at width extend) (load_reserved o r rd at width extend)
  reserved_near r rd at width extend few =
      aligned_near s space hand at at width (reserving r rd at width extend (loaded m.data_ at width))
      (reserving r rd at width extend (loaded o.data_ at width))
      (by_access s space hand at (reserving r rd at width extend) (reserving r rd at width extend)
      (record {
        shared = λ name. refl;
        valued = λ value. refl;
        valued_stays = λ value. refl;
        faulty = λ address. refl;
        faulty_stays = λ address. refl;
      }) (loaded m.data_ at width) (loaded o.data_ at width) (data_near at width few))

  goes_conditional : (r : Regs) (rd at width value : ℕ) (b c : Bool)
      → next_by (conditional r rd at width value b) ≡ next_by (conditional r rd at width value c)
  goes_conditional r rd at width value true true = refl
  goes_conditional r rd at width value true false = refl
  goes_conditional r rd at width value false true = refl
  goes_conditional r rd at width value false false = refl

  stays_conditional : (r : Regs) (rd at width value : ℕ) (b : Bool)
      → touches_area (next_by (conditional r rd at width value b)) ≡ false
  stays_conditional r rd at width value true = refl
  stays_conditional r rd at width value false = refl

  conditional_near : (r : Regs) (rd at width value : ℕ) → width ≤ 8
      → DoneNear s space hand at (store_conditional m r rd at width value) (store_conditional o r rd at width value)
  conditional_near r rd at width value few =
      aligned_near s space hand at at width
      (allowed (loaded m.room at width) (conditional r rd at width value (m.reserves at width)))
      (allowed (loaded o.room at width) (conditional r rd at width value (o.reserves at width)))
      (by_access s space hand at (λ a. allowed a (conditional r rd at width value (m.reserves at width)))
      (λ a. allowed a (conditional r rd at width value (o.reserves at width)))
      (record {
        shared = λ name. refl;
        valued = λ v. goes_conditional r rd at width value (m.reserves at width) (o.reserves at width);
        valued_stays = λ v. stays_conditional r rd at width value (o.reserves at width);
        faulty = λ address. refl;
        faulty_stays = λ address. refl;
      }) (loaded m.room at width) (loaded o.room at width) (room_near at width few))

  operates_near : (r : Regs) (i : Instr) (rd at width b : ℕ) (extend : ℕ → ℕ) → width ≤ 8
      → DoneNear s space hand at (operates m r i rd at width b extend) (operates o r i rd at width b extend)
  operates_near r i rd at width b extend few =
      aligned_near s space hand at at width
      (operating r i rd at width b extend (both (loaded m.data_ at width) (loaded m.room at width)))
      (operating r i rd at width b extend (both (loaded o.data_ at width) (loaded o.room at width)))
      (by_access s space hand at (operating r i rd at width b extend) (operating r i rd at width b extend)
      (record {
        shared = λ name. refl;
        valued = λ value. refl;
        valued_stays = λ value. refl;
        faulty = λ address. refl;
        faulty_stays = λ address. refl;
      }) (both (loaded m.data_ at width) (loaded m.room at width))
      (both (loaded o.data_ at width) (loaded o.room at width))
      (both_near s space hand at (loaded m.data_ at width) (loaded o.data_ at width) (loaded m.room at width)
      (loaded o.room at width) (data_near at width few) (room_near at width few)))

  pub done_near : (r : Regs) (i : Instr) → DoneNear s space hand (address_of r i) (done_by m r i) (done_by o r i)
  unfolding done_by
  done_near r (instr.Lui rd imm) = Same refl refl
  done_near r (instr.Auipc rd imm) = Same refl refl
  done_near r (instr.Jal rd imm) = Same refl (jump_stays r rd (sum r.pc imm))
  done_near r (instr.Jalr rd rs1 imm) = Same refl (jump_stays r rd (even (sum (reg r rs1) imm)))
  done_near r (instr.Beq rs1 rs2 imm) =
      Same refl (branch_stays r (is_taken (instr.Beq rs1 rs2 imm) (reg r rs1) (reg r rs2)) (sum r.pc imm))
  done_near r (instr.Bne rs1 rs2 imm) =
      Same refl (branch_stays r (is_taken (instr.Bne rs1 rs2 imm) (reg r rs1) (reg r rs2)) (sum r.pc imm))
  done_near r (instr.Blt rs1 rs2 imm) =
      Same refl (branch_stays r (is_taken (instr.Blt rs1 rs2 imm) (reg r rs1) (reg r rs2)) (sum r.pc imm))
  done_near r (instr.Bge rs1 rs2 imm) =
      Same refl (branch_stays r (is_taken (instr.Bge rs1 rs2 imm) (reg r rs1) (reg r rs2)) (sum r.pc imm))
  done_near r (instr.Bltu rs1 rs2 imm) =
      Same refl (branch_stays r (is_taken (instr.Bltu rs1 rs2 imm) (reg r rs1) (reg r rs2)) (sum r.pc imm))
  done_near r (instr.Bgeu rs1 rs2 imm) =
      Same refl (branch_stays r (is_taken (instr.Bgeu rs1 rs2 imm) (reg r rs1) (reg r rs2)) (sum r.pc imm))
  done_near r (instr.Lb rd rs1 imm) = loads_near r rd (sum (reg r rs1) imm) 1 (extended 7) (omega arith)
  done_near r (instr.Lh rd rs1 imm) = loads_near r rd (sum (reg r rs1) imm) 2 (extended 15) (omega arith)
  done_near r (instr.Lw rd rs1 imm) = loads_near r rd (sum (reg r rs1) imm) 4 (extended 31) (omega arith)
  done_near r (instr.Ld rd rs1 imm) = loads_near r rd (sum (reg r rs1) imm) 8 (λ value. value) (omega arith)
  done_near r (instr.Lbu rd rs1 imm) = loads_near r rd (sum (reg r rs1) imm) 1 (λ value. value) (omega arith)
  done_near r (instr.Lhu rd rs1 imm) = loads_near r rd (sum (reg r rs1) imm) 2 (λ value. value) (omega arith)
  done_near r (instr.Lwu rd rs1 imm) = loads_near r rd (sum (reg r rs1) imm) 4 (λ value. value) (omega arith)
  done_near r (instr.Sb rs1 rs2 imm) = stores_near r (sum (reg r rs1) imm) 1 (reg r rs2) (omega arith)
  done_near r (instr.Sh rs1 rs2 imm) = stores_near r (sum (reg r rs1) imm) 2 (reg r rs2) (omega arith)
  done_near r (instr.Sw rs1 rs2 imm) = stores_near r (sum (reg r rs1) imm) 4 (reg r rs2) (omega arith)
  done_near r (instr.Sd rs1 rs2 imm) = stores_near r (sum (reg r rs1) imm) 8 (reg r rs2) (omega arith)
  done_near r (instr.Addi rd rs1 imm) = Same refl refl
  done_near r (instr.Slti rd rs1 imm) = Same refl refl
  done_near r (instr.Sltiu rd rs1 imm) = Same refl refl
  done_near r (instr.Xori rd rs1 imm) = Same refl refl
  done_near r (instr.Ori rd rs1 imm) = Same refl refl
  done_near r (instr.Andi rd rs1 imm) = Same refl refl
  done_near r (instr.Slli rd rs1 shamt) = Same refl refl
  done_near r (instr.Srli rd rs1 shamt) = Same refl refl
  done_near r (instr.Srai rd rs1 shamt) = Same refl refl
  done_near r (instr.Add rd rs1 rs2) = Same refl refl
  done_near r (instr.Sub rd rs1 rs2) = Same refl refl
  done_near r (instr.Sll rd rs1 rs2) = Same refl refl
  done_near r (instr.Slt rd rs1 rs2) = Same refl refl
  done_near r (instr.Sltu rd rs1 rs2) = Same refl refl
  done_near r (instr.Xor rd rs1 rs2) = Same refl refl
  done_near r (instr.Srl rd rs1 rs2) = Same refl refl
  done_near r (instr.Sra rd rs1 rs2) = Same refl refl
  done_near r (instr.Or rd rs1 rs2) = Same refl refl
  done_near r (instr.And rd rs1 rs2) = Same refl refl
  done_near r instr.Fence = Same refl refl
  done_near r instr.FenceI = Same refl refl
  done_near r instr.Ecall = Same refl refl
  done_near r instr.Ebreak = Same refl refl
  done_near r (instr.Addiw rd rs1 imm) = Same refl refl
  done_near r (instr.Slliw rd rs1 shamt) = Same refl refl
  done_near r (instr.Srliw rd rs1 shamt) = Same refl refl
  done_near r (instr.Sraiw rd rs1 shamt) = Same refl refl
  done_near r (instr.Addw rd rs1 rs2) = Same refl refl
  done_near r (instr.Subw rd rs1 rs2) = Same refl refl
  done_near r (instr.Sllw rd rs1 rs2) = Same refl refl
  done_near r (instr.Srlw rd rs1 rs2) = Same refl refl
  done_near r (instr.Sraw rd rs1 rs2) = Same refl refl
  done_near r (instr.Mul rd rs1 rs2) = Same refl refl
  done_near r (instr.Mulh rd rs1 rs2) = Same refl refl
  done_near r (instr.Mulhsu rd rs1 rs2) = Same refl refl
  done_near r (instr.Mulhu rd rs1 rs2) = Same refl refl
  done_near r (instr.Div rd rs1 rs2) = Same refl refl
  done_near r (instr.Divu rd rs1 rs2) = Same refl refl
  done_near r (instr.Rem rd rs1 rs2) = Same refl refl
  done_near r (instr.Remu rd rs1 rs2) = Same refl refl
  done_near r (instr.Mulw rd rs1 rs2) = Same refl refl
  done_near r (instr.Divw rd rs1 rs2) = Same refl refl
  done_near r (instr.Divuw rd rs1 rs2) = Same refl refl
  done_near r (instr.Remw rd rs1 rs2) = Same refl refl
  done_near r (instr.Remuw rd rs1 rs2) = Same refl refl
  done_near r (instr.LrW rd rs1) = reserved_near r rd (reg r rs1) 4 (extended 31) (omega arith)
  done_near r (instr.ScW rd rs1 rs2) = conditional_near r rd (reg r rs1) 4 (reg r rs2) (omega arith)
  done_near r (instr.AmoswapW rd rs1 rs2) =
      operates_near r (instr.AmoswapW rd rs1 rs2) rd (reg r rs1) 4 (reg r rs2) (extended 31) (omega arith)
  done_near r (instr.AmoaddW rd rs1 rs2) =
      operates_near r (instr.AmoaddW rd rs1 rs2) rd (reg r rs1) 4 (reg r rs2) (extended 31) (omega arith)
  done_near r (instr.AmoxorW rd rs1 rs2) =
      operates_near r (instr.AmoxorW rd rs1 rs2) rd (reg r rs1) 4 (reg r rs2) (extended 31) (omega arith)
  done_near r (instr.AmoandW rd rs1 rs2) =
      operates_near r (instr.AmoandW rd rs1 rs2) rd (reg r rs1) 4 (reg r rs2) (extended 31) (omega arith)
  done_near r (instr.AmoorW rd rs1 rs2) =
      operates_near r (instr.AmoorW rd rs1 rs2) rd (reg r rs1) 4 (reg r rs2) (extended 31) (omega arith)
  done_near r (instr.AmominW rd rs1 rs2) =
      operates_near r (instr.AmominW rd rs1 rs2) rd (reg r rs1) 4 (reg r rs2) (extended 31) (omega arith)
  done_near r (instr.AmomaxW rd rs1 rs2) =
      operates_near r (instr.AmomaxW rd rs1 rs2) rd (reg r rs1) 4 (reg r rs2) (extended 31) (omega arith)
  done_near r (instr.AmominuW rd rs1 rs2) =
      operates_near r (instr.AmominuW rd rs1 rs2) rd (reg r rs1) 4 (reg r rs2) (extended 31) (omega arith)
  done_near r (instr.AmomaxuW rd rs1 rs2) =
      operates_near r (instr.AmomaxuW rd rs1 rs2) rd (reg r rs1) 4 (reg r rs2) (extended 31) (omega arith)
  done_near r (instr.LrD rd rs1) = reserved_near r rd (reg r rs1) 8 (λ value. value) (omega arith)
  done_near r (instr.ScD rd rs1 rs2) = conditional_near r rd (reg r rs1) 8 (reg r rs2) (omega arith)
  done_near r (instr.AmoswapD rd rs1 rs2) =
      operates_near r (instr.AmoswapD rd rs1 rs2) rd (reg r rs1) 8 (reg r rs2) (λ value. value) (omega arith)
  done_near r (instr.AmoaddD rd rs1 rs2) =
      operates_near r (instr.AmoaddD rd rs1 rs2) rd (reg r rs1) 8 (reg r rs2) (λ value. value) (omega arith)
  done_near r (instr.AmoxorD rd rs1 rs2) =
      operates_near r (instr.AmoxorD rd rs1 rs2) rd (reg r rs1) 8 (reg r rs2) (λ value. value) (omega arith)
  done_near r (instr.AmoandD rd rs1 rs2) =
      operates_near r (instr.AmoandD rd rs1 rs2) rd (reg r rs1) 8 (reg r rs2) (λ value. value) (omega arith)
  done_near r (instr.AmoorD rd rs1 rs2) =
      operates_near r (instr.AmoorD rd rs1 rs2) rd (reg r rs1) 8 (reg r rs2) (λ value. value) (omega arith)
  done_near r (instr.AmominD rd rs1 rs2) =
      operates_near r (instr.AmominD rd rs1 rs2) rd (reg r rs1) 8 (reg r rs2) (λ value. value) (omega arith)
  done_near r (instr.AmomaxD rd rs1 rs2) =
      operates_near r (instr.AmomaxD rd rs1 rs2) rd (reg r rs1) 8 (reg r rs2) (λ value. value) (omega arith)
  done_near r (instr.AmominuD rd rs1 rs2) =
      operates_near r (instr.AmominuD rd rs1 rs2) rd (reg r rs1) 8 (reg r rs2) (λ value. value) (omega arith)
  done_near r (instr.AmomaxuD rd rs1 rs2) =
      operates_near r (instr.AmomaxuD rd rs1 rs2) rd (reg r rs1) 8 (reg r rs2) (λ value. value) (omega arith)
  done_near r instr.Illegal = Same refl refl
