mod FalseClaim
