-- The kinds of values that words have.

-- a byte word, one that may be options, a number, byte words that commas part, numbers that commas part; a name that is
-- new for an endpoint or a sequence number, or is known as one; such a number's name or `-`; a provider; a mode; an action
pub data Kind : Type 0 where
  Bytes : Kind
  Options : Kind
  Number : Kind
  Parts : Kind
  Sizes : Kind
  NewEndpoint : Kind
  Endpoint : Kind
  NewSequence : Kind
  Sequence : Kind
  SequenceOrNone : Kind
  Provider : Kind
  Mode : Kind
  Action : Kind
