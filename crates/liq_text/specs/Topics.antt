-- What a query asks about.
pub data Topic : Type 0 where
  Wallet : Topic
  Trove : Topic
  Deposit : Topic
  Pools : Topic
  System : Topic
  NextNumber : Topic
