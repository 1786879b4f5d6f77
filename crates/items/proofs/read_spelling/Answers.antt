-- `items::read_spelling` meets its contract: each arm's callee reads what `spelt` says of its kind.
use Rattle.std.proofs.Common.{inl, inr}
use Rattle.items.proofs.read_spelling.Goals as goal

pub returns-in-U32 : goal.returns-in-U32
returns-in-U32 c = λ o. elim c.in-U32.is [ inl e ↦ rw e (c.read_u32.ensures o) | inr e ↦ rw e.1 (c.read_u32.ensures o) ]

pub returns-in-I32 : goal.returns-in-I32
returns-in-I32 c = λ o. rw c.in-I32.is (c.read_i32.ensures o)

pub returns-in-Time : goal.returns-in-Time
returns-in-Time c = λ o. rw c.in-Time.is (c.read_u64.ensures o)

pub returns-in-Float : goal.returns-in-Float
returns-in-Float c = λ o. rw c.in-Float.is (c.read_float.ensures o)

pub returns-in-Uint16 : goal.returns-in-Uint16
returns-in-Uint16 c = λ o. rw c.in-Uint16.is (c.read_uint16.ensures o)

pub returns-in-Byte : goal.returns-in-Byte
returns-in-Byte c = λ o. elim c.in-Byte.is [ inl e ↦ rw e (c.read_byte.ensures o) | inr (inl e) ↦ rw e.1 (c.read_byte.ensures o) | inr (inr e) ↦ rw e (c.read_byte.ensures o) ]
